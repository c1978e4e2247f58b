use Rattle.model.proofs.InWords.{merge-is-in-words, one_merge}
use Rattle.model.proofs.Merging.{merge-rearranges}
use Rattle.layers.proofs.facts.joins_rearrange.Goals as goal

pub returns : goal.returns
returns c = record { rearranges = merge-rearranges; words = merge-is-in-words; one = one_merge }
