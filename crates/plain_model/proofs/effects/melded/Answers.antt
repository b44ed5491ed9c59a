use Rattle.std.proofs.Common.{ℕ, ap, ◌≡◌, ◌+◌, ◌++◌, length, ◌∙◌, length-append}
use Rattle.lazy_rec.specs.Plain.{rising}
use Rattle.plain_model.proofs.Growth.{grown-allowed, grown-too_long, by_parts}
use Rattle.plain_model.proofs.RisingLists.{rising-unique, is_rising-IsNonDecreasing}
use Rattle.lazy_rec.proofs.PlainLaws.{length-rising}
use Rattle.std.proofs.lemmas.List.Sorted.{IsNonDecreasingBy-from_sort}
use Rattle.plain_model.proofs.effects.melded.Goals as goal

pub returns-then-not-is_allowed : goal.returns-then-not-is_allowed
returns-then-not-is_allowed c =
    let v = c.args.base.now in
    let w = c.args.other.now in
    let n : length (rising (v ++ w)) ≡ length v + length w = length-rising (v ++ w) ∙ length-append v w in
    rw (grown-too_long v (rising (v ++ w)) _ _ n c.is_allowed.ensures c.if-not-is_allowed.true) c.copied.ensures

pub returns : goal.returns
returns c =
    let v = c.args.base.now in
    let w = c.args.other.now in
    let n : length (rising (v ++ w)) ≡ length v + length w = length-rising (v ++ w) ∙ length-append v w in
    let e = grown-allowed v (rising (v ++ w)) _ _ n c.is_allowed.ensures c.if-not-is_allowed.false in
    let sorted = c.in_ok-sort.ensures in
    let r = is_rising-IsNonDecreasing c.sort.new.self.items (IsNonDecreasingBy-from_sort (λ (x : ℕ). x) c.sort.new.self.items sorted.sorted) in
    by_parts _ _ _ _ e (rising-unique c.in_ok-list.list.items c.sort.new.self.items sorted.permutation r ∙ ap rising c.in_ok-list.ensures)
