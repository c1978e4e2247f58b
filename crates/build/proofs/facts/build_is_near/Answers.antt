use Rattle.model.proofs.Nearness.{build-near}
use Rattle.build.proofs.facts.build_is_near.Goals as goal

pub returns : goal.returns
returns c = build-near
