use Rattle.model.proofs.Streaming as streaming
use Rattle.model.proofs.facts.stream_laws.Goals as goal

pub returns : goal.returns
returns c = streaming.stream-laws
