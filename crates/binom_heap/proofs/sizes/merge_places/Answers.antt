use Rattle.std.proofs.Common.{◌≡◌, ◌≤◌, ◌+◌, ◌*◌, min, refl, ap, ◌∙◌, arith}
use Rattle.lazy_rec.specs.Numbers.{bits}
use Rattle.binom_heap.specs.Work.{merge_places_of}
use Rattle.binom_heap.proofs.PlacesLaws.{few_ones}
use Rattle.binom_heap.proofs.MergeCounts.{shared, shared_few, reached_few, reached_some, cells_are, merge_counts}
use Rattle.binom_heap.proofs.sizes.merge_places.Goals as goal
use Rattle.binom_heap.proofs.sizes.merge_places.Goals.{After-bits, After-ones-cells, After-ones-3}

reached_is : (c : After-bits) → c.bits.result ≡ bits (min c.args.n1 c.args.n2)
reached_is c =
    let n = c.from-n.ensures in
    let m = c.from-m.ensures in
    c.bits.ensures ∙ (ap bits c.min.ensures ∙ rw (n, m) refl)

few : (c : After-bits) → c.bits.result ≤ 32
few c = omega (arith, reached_is c, reached_few c.args.n1 c.args.n2 (omega arith) (omega arith))

pub overflow_shl-reached : goal.overflow_shl-reached
overflow_shl-reached c = omega (arith, few (goal.at.overflow_shl-reached c).After-bits)

pub overflow_sub-reached : goal.overflow_sub-reached
overflow_sub-reached c = reached_some c.bits.result (few (goal.at.overflow_sub-reached c).After-bits)

cells : (c : After-ones-cells) → c.ones-cells.result ≡ shared c.args.n1 c.args.n2
cells c =
    let n = c.from-n.ensures in
    let m = c.from-m.ensures in
    let k = rw (n, m) at c.ones-cells.ensures in
    k ∙ cells_are c.args.n1 c.args.n2 c.bits.result (omega arith) (omega arith) (reached_is c.before)

pub overflow_add-result : goal.overflow_add-result
overflow_add-result c = omega (arith, c.ones.ensures, c.ones-2.ensures, few_ones c.from-n.result, few_ones c.from-m.result)

pub overflow_mul-result : goal.overflow_mul-result
overflow_mul-result c = omega (arith, c.ones.ensures, c.ones-2.ensures, few_ones c.from-n.result, few_ones c.from-m.result)

pub overflow_add-result-2 : goal.overflow_add-result-2
overflow_add-result-2 c = omega (arith, cells (goal.at.overflow_add-result-2 c).After-ones-cells, shared_few c.args.n1 c.args.n2, c.ones.ensures, c.ones-2.ensures, few_ones c.from-n.result, few_ones c.from-m.result)

pub overflow_mul-result-2 : goal.overflow_mul-result-2
overflow_mul-result-2 c = omega (arith, c.ones-3.ensures, few_ones (c.from-n.result + c.from-m.result))

-- the count of all, in the numbers that were counted
counted : (c : After-ones-3) → merge_places_of c.args.n1 c.args.n2 + 2 * c.ones-3.result ≡ c.ones-cells.result + 2 * (c.ones.result + c.ones-2.result)
counted c =
    let n = c.from-n.ensures in
    let m = c.from-m.ensures in
    let one = rw n at c.ones.ensures in
    let two = rw m at c.ones-2.ensures in
    let both = rw (n, m) at c.ones-3.ensures in
    let all = cells (goal.at.returns c).After-ones-cells in
    rw (one, two, both, all) (merge_counts c.args.n1 c.args.n2 (omega arith) (omega arith))

pub overflow_sub-result : goal.overflow_sub-result
overflow_sub-result c = omega (arith, counted (goal.at.overflow_sub-result c).After-ones-3)

pub returns : goal.returns
returns c = omega (arith, counted c)
