-- Plain cells that a loop puts, one before another.
use Rattle.std.proofs.Common.{◌≡◌, ℕ, ◌<◌, sym, ap, ◌∙◌, false, true, Some, List, [], ◌∷◌}
use Rattle.lazy_rec.specs.declared.places.Ref.{Ref}
use Rattle.lazy_rec.specs.declared.records.Rec.TheVariants.{Nil, Cons}
use Rattle.lazy_rec.specs.Meaning.{Entry, an_item, cells}
use Rattle.heap_store.specs.World.{World, recs, Keeps}
use Rattle.heap_store.specs.Completion.{is_plain}
use Rattle.heap_store.specs.Lawful.{IsLawful, height}
use Rattle.heap_store.specs.Hand.{contains}
use Rattle.heap_store.specs.View.{View, IsLawfulView, Fits}
use Rattle.heap_store.proofs.LawfulLaws.{lawful_names}
use Rattle.heap_store.proofs.MeaningLaws.{cells_is, cells_kept}
use Rattle.heap_store.proofs.MadeLaws.{plain_kept}
use Rattle.heap_store.proofs.RecordLaws.{height_kept}
use Rattle.heap_store.proofs.HeightLaws.{nil_height, item_height}
use Rattle.heap_store.proofs.CellLaws.{plain_is, plain_there, plain_named}
use Rattle.heap_store.proofs.FixedPlaces.{fixed_records, nil_plain}
use Rattle.heap_store.proofs.PutLaws.{fits_cons}

-- the cells from a place on
pub record PlainCells (w : World) (p : ℕ) (entries : List Entry) : Type 0 where
  pub plain : is_plain (recs w) p ≡ true
  pub low : height (recs w) p ≡ 0
  pub are : cells (recs w) p ≡ entries

pub plain_none : {w : World} → IsLawful w → PlainCells w 0 []
plain_none {w} law = record { plain = nil_plain law; low = nil_height law 0 (fixed_records law).nil; are = cells_is (recs w) (lawful_names law) 0 Nil (fixed_records law).nil }

pub plain_grows : {a b : World} {p : ℕ} {es : List Entry} → IsLawful a → Keeps (recs a) (recs b) → PlainCells a p es → PlainCells b p es
plain_grows {a} {b} {p} law keeps k =
    let n = lawful_names law in
    let is = plain_there (recs a) p k.plain in
    record {
      plain = sym (plain_kept (recs a) (recs b) n keeps p is) ∙ k.plain;
      low = sym (height_kept (recs a) (recs b) n keeps p is) ∙ k.low;
      are = sym (cells_kept (recs a) (recs b) n keeps p is) ∙ k.are;
    }

-- one more
pub plain_cons : {w : World} → IsLawful w → (p v : ℕ) (rest : Ref) {es : List Entry} → recs w p ≡ Some (Cons false v rest) → PlainCells w rest.0 es → PlainCells w p (an_item v ∷ es)
plain_cons {w} law p v rest e k = record {
  plain = plain_is law p (Cons false v rest) e ∙ k.plain;
  low = item_height law p v rest e ∙ k.low;
  are = cells_is (recs w) (lawful_names law) p (Cons false v rest) e ∙ ap (λ t. an_item v ∷ t) k.are;
}

-- what the put of one more asks
pub fits_plain : {v : View} → IsLawfulView v → (p : ℕ) → contains v.hand.reserved p ≡ true → (x : ℕ) (rest : Ref) {es : List Entry} → x < 18446744073709551616 → PlainCells v.seen rest.0 es → rest.0 < p → Fits v p (Cons false x rest)
fits_plain law p held x rest fits k low = fits_cons law p held x rest fits (plain_named law.world p rest.0 k.plain low)
