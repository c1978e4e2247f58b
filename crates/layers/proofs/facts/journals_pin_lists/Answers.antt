use Rattle.model.proofs.Histories.{carried, one-course}
use Rattle.layers.proofs.facts.journals_pin_lists.Goals as goal

pub returns : goal.returns
returns c = record { pins = one-course; carries = carried }
