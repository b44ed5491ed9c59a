-- Kinds and operations are told by their numbers.
use Rattle.std.proofs.Common.{ℕ, ◌-◌, ◌<◌, arith, eqb, leb, cond, Bool, false, ◌≡◌, refl, sym, ap, ◌∙◌, true, Option, Some, None}
use Rattle.std.specs.Prelude.{slice_get, option_map}
use Rattle.std.proofs.lemmas.Option.{slice_get_within}
use Rattle.std.proofs.lemmas.Bool.{true≢false, eqb-true, eq-eqb}
use Rattle.lazy_rec.specs.declared.events.Kind.{Kind}
use Rattle.lazy_rec.specs.declared.events.Kind.TheVariants as kinds
use Rattle.lazy_rec.specs.declared.events.Op.{Op}
use Rattle.lazy_rec.specs.declared.events.Op.TheVariants as ops
use Rattle.lazy_rec.specs.Tests.{is_some_and}
use Rattle.lazy_rec.specs.Kinds.{kind_number, same_kind}
use Rattle.lazy_rec.specs.Numbering.{all_kinds, kind_of_number, numbered_ops, op_of_number}

pub kind_of_number-back : (k : Kind) → kind_of_number (kind_number k) ≡ Some k
kind_of_number-back kinds.Stream = refl
kind_of_number-back kinds.Bankq = refl
kind_of_number-back kinds.Rtq = refl
kind_of_number-back kinds.Heap = refl
kind_of_number-back kinds.Seq = refl
kind_of_number-back kinds.Prio = refl
kind_of_number-back kinds.Ord = refl
kind_of_number-back kinds.Cat = refl

-- what has a number below 40 alone
pub op_of_number-low : (n : ℕ) (op : Op) → op_of_number n ≡ Some op → n < 40
op_of_number-low n op h = by (leb 32 n) (eqb n 0) h
  where
    of_kind : (o : Option Kind) → kind_of_number (n - 32) ≡ o → option_map ops.New o ≡ Some op → n < 40
    of_kind None e k = absurd (cc)
    of_kind (Some kind) e k = omega (arith, slice_get_within all_kinds (n - 32) kind e)

    by : (b c : Bool) → cond b (option_map ops.New (kind_of_number (n - 32))) (cond c None (slice_get numbered_ops (n - 1))) ≡ Some op → n < 40
    by true c k = of_kind (kind_of_number (n - 32)) refl k
    by false true k = absurd (cc)
    by false false k = omega (arith, slice_get_within numbered_ops (n - 1) op k)

-- kinds with one number are one
pub same_kind-eq : (k l : Kind) → same_kind k l ≡ true → k ≡ l
same_kind-eq k l h =
    let back = kind_of_number-back k in
    let back' = kind_of_number-back l in
    let same = eqb-true (kind_number k) (kind_number l) h in
    let one : Some k ≡ Some l = sym back ∙ ap kind_of_number same ∙ back' in
    cc

pub same_kind-refl : (k : Kind) → same_kind k k ≡ true
same_kind-refl k = eq-eqb (kind_number k) (kind_number k) refl

-- an option with a kind that is this one
pub some_kind : (k : Kind) (o : Option Kind) → is_some_and (same_kind k) o ≡ true → o ≡ Some k
some_kind k None h = absurd (true≢false (sym h))
some_kind k (Some l) h = ap Some (sym (same_kind-eq k l h))
