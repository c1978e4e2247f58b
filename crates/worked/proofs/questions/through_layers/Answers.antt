use Rattle.worked.proofs.Answered.{answers}
use Rattle.worked.proofs.JoinedBooks.{first-comes, grid-is, later-comes}
use Rattle.worked.proofs.questions.through_layers.Goals as goal

pub returns : goal.returns
returns c =
    let made = grid-is (rw c.unwrap-grid.ensures at c.new.ensures.contents) c.new-both.ensures.contents c.in_ok-example.ensures c.in_ok-re_entered.ensures.contents in
    (answers made c.ask_both.ensures.first.2 first-comes, answers made c.ask_both.ensures.second.2 later-comes)
