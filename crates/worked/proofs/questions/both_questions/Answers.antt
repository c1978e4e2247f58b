use Rattle.std.proofs.Common.{ap}
use Rattle.model.specs.History.{year_book}
use Rattle.worked.proofs.Answered.{answers}
use Rattle.worked.proofs.ExampleBook.{first-comes, later-comes}
use Rattle.worked.proofs.questions.both_questions.Goals as goal

pub returns : goal.returns
returns c =
    let holds = ap year_book c.in_ok-example.ensures in
    (answers holds c.ask_both.ensures.first.2 first-comes, answers holds c.ask_both.ensures.second.2 later-comes)
