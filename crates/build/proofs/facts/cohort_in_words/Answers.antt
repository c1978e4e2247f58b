use Rattle.model.proofs.Cohorts.{computed-is-cohort, one-cohort}
use Rattle.model.proofs.Members.{members-are}
use Rattle.build.proofs.facts.cohort_in_words.Goals as goal

pub returns : goal.returns
returns c = record { computed = computed-is-cohort; one = one-cohort; members = members-are }
