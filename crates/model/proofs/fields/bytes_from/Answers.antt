use Rattle.std.proofs.Common.{rules}
use Rattle.model.proofs.ReadOut.{read-all}
use Rattle.model.proofs.fields.bytes_from.Goals as goal

pub returns : goal.returns
returns g c =
    let made = c.from_fn.ensures.items in
    read-all _ c.args.bytes.now c.args.at _ (λ i y q k. (search rules, search rules)) _ c.from_fn.result made.long made.each
