-- Cells of streams and of lists.
use Rattle.std.proofs.Common.{◌≡◌, ℕ, ◌<◌, ◌≤◌, refl, sym, ap, ◌∙◌, arith, Bool, true, false, not, ◌&&◌, Some, ◌∷◌, length, List}
use Rattle.std.specs.Prelude.{flat_map}
use Rattle.std.specs.List.{list_all}
use Rattle.std.proofs.lemmas.Bool.{true≢false, and_parts}
use Rattle.lazy_rec.specs.declared.places.Ref.{Ref}
use Rattle.lazy_rec.specs.declared.records.Rec.{Rec}
use Rattle.lazy_rec.specs.declared.records.Rec.TheVariants.{Nil, Cons, LNil, LCons, Append, Reverse, BankRot, RtRot}
use Rattle.lazy_rec.specs.declared.records.Sort.TheVariants as sorts
use Rattle.lazy_rec.specs.ByPlace.{below, by_place}
use Rattle.lazy_rec.specs.Named.{Records, sort_of, same_sort, is_pending, at_record}
use Rattle.lazy_rec.specs.Meaning.{entry, items_of, cells, means_of, means}
use Rattle.heap_store.specs.World.{World, recs, holds, value_at}
use Rattle.heap_store.specs.Values.{is_stream_part, is_list}
use Rattle.heap_store.specs.Completion.{plain_of, is_plain}
use Rattle.heap_store.specs.Lawful.{IsLawful, is_item, has_items, height}
use Rattle.lazy_rec.proofs.ByPlaceLaws.{from_lower}
use Rattle.heap_store.proofs.NameLaws.{IsPublished, IsNamedWell}
use Rattle.heap_store.proofs.GrowthLaws.{at_true, sorts_agree}
use Rattle.heap_store.proofs.MeaningLaws.{by_record_is, cells_is, means_is}
use Rattle.heap_store.proofs.MadeLaws.{plain_look}
use Rattle.heap_store.proofs.LawfulLaws.{lawful_names}
use Rattle.heap_store.proofs.RangeLaws.{range_fields}
use Rattle.heap_store.proofs.ReadLaws.{holds_at, place_there}
use Rattle.heap_store.proofs.ValueLaws.{value_self, value_stands}
use Rattle.heap_store.proofs.HeightLaws.{rest_height}

-- ---- cells and ends

-- a value of a stream
abbrev pub is_cell_or_end : Rec → Bool
is_cell_or_end Nil = true
is_cell_or_end (Cons _ _ _) = true
is_cell_or_end _ = false

pub stream_value : (r : Rec) → (not (is_pending r) && same_sort (sort_of r) sorts.Stream) ≡ true → is_cell_or_end r ≡ true
stream_value Nil h = refl
stream_value (Cons _ _ _) h = refl
stream_value _ h = absurd (true≢false (sym h))

pub value_stream : (r : Rec) → is_cell_or_end r ≡ true → (not (is_pending r) && same_sort (sort_of r) sorts.Stream) ≡ true
value_stream Nil h = refl
value_stream (Cons _ _ _) h = refl
value_stream _ h = absurd (true≢false (sym h))

pub value_sort : (r : Rec) → is_cell_or_end r ≡ true → is_stream_part r ≡ true
value_sort Nil h = refl
value_sort (Cons _ _ _) h = refl
value_sort _ h = absurd (true≢false (sym h))

pub value_waits : (r : Rec) → is_cell_or_end r ≡ true → is_pending r ≡ false
value_waits Nil h = refl
value_waits (Cons _ _ _) h = refl
value_waits _ h = absurd (true≢false (sym h))

-- ---- plain cells

pub plain_is : {w : World} → IsLawful w → (p : ℕ) (r : Rec) → recs w p ≡ Some r → is_plain (recs w) p ≡ plain_of (is_plain (recs w)) r
unfolding is_plain
plain_is {w} law = by_record_is false plain_of plain_look (recs w) (lawful_names law)

pub plain_there : (rs : Records) (p : ℕ) → is_plain rs p ≡ true → IsPublished rs p
unfolding is_plain by_place
plain_there rs p h = place_there rs p (plain_of (below false (λ lower q. at_record false (plain_of lower) (rs q)) p)) h

pub plain_value : {w : World} → IsLawful w → (p : ℕ) (r : Rec) → recs w p ≡ Some r → is_plain (recs w) p ≡ true → is_cell_or_end r ≡ true
plain_value {w} law p r e h = by r (sym (plain_is law p r e) ∙ h)
  where
    by : (r : Rec) → plain_of (is_plain (recs w)) r ≡ true → is_cell_or_end r ≡ true
    by Nil h = refl
    by (Cons _ _ _) h = refl
    by _ h = h

-- plain cells below a place are what it may name as a stream
pub plain_named : {w : World} → IsLawful w → (p q : ℕ) → is_plain (recs w) q ≡ true → q < p → IsNamedWell (recs w) p (q, sorts.Stream)
plain_named {w} law p q h low =
    let k = plain_there (recs w) q h in
    (low, k.0, k.1, sorts_agree (sort_of k.0) sorts.Stream (value_sort k.0 (plain_value law q k.0 k.1 h)))

-- ---- entries

pub cons_cells : {w : World} → IsLawful w → (p : ℕ) (c : Bool) (v : ℕ) (rest : Ref) → recs w p ≡ Some (Cons c v rest) → cells (recs w) p ≡ entry c v ∷ cells (recs w) rest.0
cons_cells {w} law p c v rest e = cells_is (recs w) (lawful_names law) p (Cons c v rest) e

pub list_cells : {w : World} → IsLawful w → (p : ℕ) (c : Bool) (v : ℕ) (rest : Ref) → recs w p ≡ Some (LCons c v rest) → cells (recs w) p ≡ entry c v ∷ cells (recs w) rest.0
list_cells {w} law p c v rest e = cells_is (recs w) (lawful_names law) p (LCons c v rest) e

-- a value with a cell is that cell
pub some_cell : {w : World} → IsLawful w → (p : ℕ) (r : Rec) → recs w p ≡ Some r → is_cell_or_end r ≡ true → 0 < length (cells (recs w) p) → ((c : Bool) (v : ℕ) (rest : Ref) → r ≡ Cons c v rest → ⊥) → ⊥
some_cell {w} law p Nil e h some n = let k = cells_is (recs w) (lawful_names law) p Nil e in let l : 0 < 0 = rw k at some in absurd (omega arith)
some_cell law p (Cons c v rest) e h some n = n c v rest refl
some_cell law p _ e h some n = true≢false (sym h)

pub some_list_cell : {w : World} → IsLawful w → (p : ℕ) (r : Rec) → recs w p ≡ Some r → is_list r ≡ true → 0 < length (cells (recs w) p) → ((c : Bool) (v : ℕ) (rest : Ref) → r ≡ LCons c v rest → ⊥) → ⊥
some_list_cell {w} law p LNil e h some n = let k = cells_is (recs w) (lawful_names law) p LNil e in let l : 0 < 0 = rw k at some in absurd (omega arith)
some_list_cell law p (LCons c v rest) e h some n = n c v rest refl
some_list_cell law p _ e h some n = true≢false (sym h)

-- a stream means its cells
pub stream_means : (rs : Records) (f : ℕ → List ℕ) (p : ℕ) (r : Rec) → is_stream_part r ≡ true → means_of rs f p r ≡ flat_map (items_of f) (cells rs p)
stream_means rs f p Nil h = refl
stream_means rs f p (Cons _ _ _) h = refl
stream_means rs f p (Append _ _ _ _ _) h = refl
stream_means rs f p (Reverse _ _) h = refl
stream_means rs f p (BankRot _ _ _ _ _) h = refl
stream_means rs f p (RtRot _ _ _ _ _ _) h = refl
stream_means rs f p _ h = absurd (true≢false (sym h))

-- so streams with the same cells mean the same
pub same_means : {w : World} → IsLawful w → (p q : ℕ) (r s : Rec) → recs w p ≡ Some r → recs w q ≡ Some s → is_stream_part r ≡ true → is_stream_part s ≡ true → cells (recs w) q ≡ cells (recs w) p → means (recs w) q ≡ means (recs w) p
same_means {w} law p q r s e f h k same =
    let rs = recs w in
    let own = means_is rs (lawful_names law) p r e ∙ stream_means rs (means rs) p r h in
    means_is rs (lawful_names law) q s f ∙ stream_means rs (means rs) q s k ∙ ap (flat_map (items_of (means rs))) same ∙ sym own

-- the first of entries that are items is one, and the others are too
pub record ItemFirst (rs : Records) (c : Bool) (rest : ℕ) : Type 0 where
  pub is_item : c ≡ false
  pub others : has_items rs rest ≡ true

pub first_item : (rs : Records) (p rest : ℕ) (c : Bool) (v : ℕ) → has_items rs p ≡ true → cells rs p ≡ entry c v ∷ cells rs rest → ItemFirst rs c rest
first_item rs p rest c v h e =
    let k : (is_item (entry c v) && list_all is_item (cells rs rest)) ≡ true = rw e at h in
    let q = and_parts (is_item (entry c v)) (list_all is_item (cells rs rest)) k in
    record { is_item = by c q.0; others = q.1 }
  where
    by : (c : Bool) → is_item (entry c v) ≡ true → c ≡ false
    by true h = absurd (true≢false (sym h))
    by false h = refl

-- a list is no longer than its place
pub list_length : {w : World} → IsLawful w → (p : ℕ) → holds (recs w) p is_list ≡ true → length (cells (recs w) p) ≤ p
list_length {w} law p h = let k = at_true is_list (recs w p) h in all p k.0 k.1 k.2
  where
    step : (p : ℕ) → ((q : ℕ) → q < p → (s : Rec) → recs w q ≡ Some s → is_list s ≡ true → length (cells (recs w) q) ≤ q) → (r : Rec) → recs w p ≡ Some r → is_list r ≡ true → length (cells (recs w) p) ≤ p
    step p ih LNil e h = rw (cells_is (recs w) (lawful_names law) p LNil e) (omega arith)
    step p ih (LCons c v rest) e h =
        let n = (lawful_names law p (LCons c v rest) e).0 in
        let k = ih rest.0 n.0 n.1 n.2 (ap (λ s. same_sort s sorts.List) n.3) in
        rw (cells_is (recs w) (lawful_names law) p (LCons c v rest) e) (omega (arith, k, n.0))
    step p ih _ e h = absurd (true≢false (sym h))

    all : (p : ℕ) (r : Rec) → recs w p ≡ Some r → is_list r ≡ true → length (cells (recs w) p) ≤ p
    all = from_lower (λ p. (r : Rec) → recs w p ≡ Some r → is_list r ≡ true → length (cells (recs w) p) ≤ p) step

-- ---- numbers of cells

pub record CellFits (v rest : ℕ) : Type 0 where
  pub value : v < 18446744073709551616
  pub place : rest < 4194304

pub cons_fits : {w : World} → IsLawful w → (p : ℕ) (c : Bool) (v : ℕ) (rest : Ref) → recs w p ≡ Some (Cons c v rest) → CellFits v rest.0
cons_fits law p c v rest e = let k = range_fields (Cons c v rest) (law.each p _ e).range in record { value = k.1.1.0; place = k.1.1.1.0 }

pub list_fits : {w : World} → IsLawful w → (p : ℕ) (c : Bool) (v : ℕ) (rest : Ref) → recs w p ≡ Some (LCons c v rest) → CellFits v rest.0
list_fits law p c v rest e = let k = range_fields (LCons c v rest) (law.each p _ e).range in record { value = k.1.1.0; place = k.1.1.1.0 }

-- ---- the first cell

-- the value of the stream at p is a cell, which stands at a place
pub record FirstCell (w : World) (p : ℕ) (c : Bool) (v : ℕ) (rest : Ref) : Type 0 where
  pub place : ℕ
  pub here : recs w place ≡ Some (Cons c v rest)
  pub rest_named : IsNamedWell (recs w) place (rest.0, sorts.Stream)
  pub cells_are : cells (recs w) p ≡ entry c v ∷ cells (recs w) rest.0
  pub low : height (recs w) rest.0 ≤ height (recs w) p
  pub fits : CellFits v rest.0

pub first_cell : {w : World} → IsLawful w → (p : ℕ) (c : Bool) (v : ℕ) (rest : Ref) → value_at w p ≡ Some (Cons c v rest) → FirstCell w p c v rest
first_cell {w} law p c v rest h =
    let k = value_stands law p (Cons c v rest) h in
    record {
      place = k.0;
      here = k.2;
      rest_named = (lawful_names law k.0 _ k.2).0;
      cells_are = sym k.1.cells ∙ cons_cells law k.0 c v rest k.2;
      low = omega (arith, rest_height law k.0 c v rest k.2, k.1.low);
      fits = cons_fits law k.0 c v rest k.2;
    }

-- a stream with a cell whose value is known has a first one
pub some_first : {w : World} → IsLawful w → (p : ℕ) (r : Rec) → holds (recs w) p is_stream_part ≡ true → value_at w p ≡ Some r → 0 < length (cells (recs w) p) → ((c : Bool) (v : ℕ) (rest : Ref) → r ≡ Cons c v rest → ⊥) → ⊥
some_first {w} law p r stream h some n =
    let k = value_stands law p r h in
    let s = sorts_agree (sort_of k.1.rec) sorts.Stream (holds_at (recs w) p is_stream_part k.1.rec stream k.1.here) in
    let sort : (not (is_pending r) && same_sort (sort_of r) (sort_of k.1.rec)) ≡ true = holds_at (recs w) k.0 (λ s. not (is_pending s) && same_sort (sort_of s) (sort_of k.1.rec)) r k.1.sort k.2 in
    some_cell law k.0 r k.2 (stream_value r (rw s at sort)) (rw (← k.1.cells) at some) n

-- where all entries are items, the first cell is of one
pub item_cell : {w : World} → IsLawful w → (p : ℕ) (c : Bool) (v : ℕ) (rest : Ref) → has_items (recs w) p ≡ true → value_at w p ≡ Some (Cons c v rest) → value_at w p ≡ Some (Cons false v rest)
item_cell {w} law p c v rest items h = let k = first_item (recs w) p rest.0 c v items (first_cell law p c v rest h).cells_are in rw k.is_item at h

pub item_list_cell : {w : World} → IsLawful w → (p : ℕ) (c : Bool) (v : ℕ) (rest : Ref) → has_items (recs w) p ≡ true → recs w p ≡ Some (LCons c v rest) → recs w p ≡ Some (LCons false v rest)
item_list_cell {w} law p c v rest items e = let k = first_item (recs w) p rest.0 c v items (list_cells law p c v rest e) in rw k.is_item at e

-- after a plain cell stand plain cells
pub plain_rest : {w : World} → IsLawful w → (p : ℕ) (c : Bool) (v : ℕ) (rest : Ref) → value_at w p ≡ Some (Cons c v rest) → is_plain (recs w) p ≡ true → is_plain (recs w) rest.0 ≡ true
plain_rest {w} law p c v rest h plain =
    let k = plain_there (recs w) p plain in
    let own = value_self w p k.0 k.1 (value_waits k.0 (plain_value law p k.0 k.1 plain)) in
    sym (plain_is law p (Cons c v rest) (k.1 ∙ (sym own ∙ h))) ∙ plain
