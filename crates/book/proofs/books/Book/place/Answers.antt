use Rattle.std.proofs.Common.{vec_items, length, get_or, ap, arith, rules}
use Rattle.std.proofs.lemmas.List.{length-map}
use Rattle.std.proofs.lemmas.List.Sorted.{IsPartitionPoint-from_clause}
use Rattle.std.specs.Bool.{Decides, one_answer}
use Rattle.std.specs.List.Sorted.{IsPartitionedBy}
use Rattle.model.specs.Plain.{Before, no_unit}
use Rattle.model.proofs.Sounds.{reached-ordered}
use Rattle.book.specs.Seen.{seen}
use Rattle.book.specs.Standing.{fresh, standing}
use Rattle.book.proofs.Order.{ahead, ahead-before, ahead-not, ahead-parted, at-map}
use Rattle.book.proofs.books.Book.place.Goals as goal

pub returns : goal.returns
returns c =
    let b = c.args.self.now in
    let us = vec_items b.units in
    let v = fresh c.args.added in
    let at = c.partition_point.result in
    let read = c.deref.ensures.value in
    let parted : IsPartitionedBy (λ u. ahead (standing u) v) c.deref.result.now = rw read (ahead-parted standing v us (reached-ordered (seen b) b.reached)) in
    let point =
    rw read at
    (IsPartitionPoint-from_clause (λ u. ahead (standing u) v) _ at c.partition_point.ensures.partitioned parted
    (λ a r q k. let h : Decides r (Before (standing a.0.now) v) = search rules in (one_answer r _ h (ahead-before (standing a.0.now) v), search rules))) in
    let most = c.partition_point.ensures.bound in
    let len = ap length read in
    record {
      bound = rw length-map (omega (arith, most, len));
      newer = λ k l. at-map standing (λ u. Before u v) us k no_unit (omega (arith, most, len, l)) (λ d. (ahead-before (standing (get_or us k d)) v).0 (point.0 k d (omega arith) l));
      stops = λ l. at-map standing (λ u. Before u v → ⊥) us at no_unit (omega (arith, l, length-map us standing)) (λ d. ahead-not (standing (get_or us at d)) v (point.1 at d (omega arith) (omega (arith, l, length-map us standing))));
    }
