use Rattle.model.proofs.Lives as lives
use Rattle.book.proofs.facts.one_contents.Goals as goal

pub returns : goal.returns
returns c = lives.one-contents
