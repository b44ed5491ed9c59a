-- What a put asks: of any record, of values, and of cells.
use Rattle.std.proofs.Common.{◌≡◌, ℕ, suc, ◌+◌, ◌<◌, ◌≤◌, refl, sym, ap, ◌∙◌, arith, ⊎_elim, true, false, Some, None}
use Rattle.std.specs.Prelude.{option_map}
use Rattle.std.specs.List.{AllByRecursion}
use Rattle.std.proofs.lemmas.List.{get_or-set_other}
use Rattle.std.proofs.lemmas.Bool.{true≢false, eq-eqb, cases_eq}
use Rattle.lazy_rec.specs.declared.places.Ref.{Ref}
use Rattle.lazy_rec.specs.declared.records.Rec.{Rec}
use Rattle.lazy_rec.specs.declared.records.Rec.TheVariants.{Cons, LCons, Append, Reverse, BankRot, RtRot, HeapInsert, HeapMerge, LinkAll, PushL, PushR, DeepL, DeepR, Concat}
use Rattle.lazy_rec.specs.declared.records.Sort.TheVariants as sorts
use Rattle.lazy_rec.specs.declared.states.SuspState.TheVariants.{Unforced}
use Rattle.lazy_rec.specs.Named.{named, is_pending}
use Rattle.lazy_rec.specs.Units.{family_of}
use Rattle.heap_store.specs.declared.nodes.Node.{Node}
use Rattle.heap_store.specs.World.{World, recs, is_published, show, Keeps}
use Rattle.heap_store.specs.Budget.{gain_at, is_settled}
use Rattle.heap_store.specs.Lawful.{HasLaws, names_well}
use Rattle.heap_store.specs.Hand.{contains, brings}
use Rattle.heap_store.specs.View.{View, IsLawfulView, Fits}
use Rattle.heap_store.proofs.NameLaws.{IsPublished, IsNamedWell}
use Rattle.heap_store.proofs.UnitLaws.{free}
use Rattle.heap_store.proofs.RangeLaws.{range_from}
use Rattle.heap_store.proofs.ReadLaws.{is_there}
use Rattle.heap_store.proofs.WellNamed.{names_well_all}

-- ---- places

-- places in hand, and published ones, fit a record's field of a place
pub place_fits : {v : View} → IsLawfulView v → (p : ℕ) → contains v.hand.reserved p ≡ true → p < 4194304
place_fits {v} law p held = omega (arith, law.reserved_low p held, law.sized)

pub published_fits : {v : View} → IsLawfulView v → (p : ℕ) → IsPublished (recs v.seen) p → p < 4194304
published_fits {v} law p is = law.published_low p (is_there (recs v.seen) p is)

-- a record put at a place in hand takes no other's place
pub put_keeps : {v : View} → IsLawfulView v → (p : ℕ) → contains v.hand.reserved p ≡ true → (r : Rec) → Keeps (recs v.seen) (recs (show v.seen p r (Unforced 0)))
put_keeps {v} law p held r q t e = ⊎_elim
    (λ same. absurd (true≢false (sym (there same) ∙ law.hand.reserved p held)))
    (λ other. ap (option_map (λ (n : Node). n.rec)) (get_or-set_other v.seen.nodes p q (Some (record { rec = r; state = Unforced 0 })) None other) ∙ e)
    (cases_eq q p)
  where
    there : q ≡ p → is_published (recs v.seen) p ≡ true
    there same = rw (← same) (rw e refl)

-- what it names well in the seen world, it names well once it stands there
pub put_names : {v : View} → IsLawfulView v → (p : ℕ) → contains v.hand.reserved p ≡ true → (r : Rec) → AllByRecursion (IsNamedWell (recs v.seen) p) (named r) → names_well (show v.seen p r (Unforced 0)) p r ≡ true
put_names {v} law p held r n = names_well_all (recs v.seen) (recs (show v.seen p r (Unforced 0))) (put_keeps law p held r) p (named r) n

-- ---- values

-- a value is its own family
value_family : (p : ℕ) (r : Rec) → is_pending r ≡ false → family_of p r ≡ (p, 0)
value_family p (Append _ _ _ _ _) h = absurd (true≢false h)
value_family p (Reverse _ _) h = absurd (true≢false h)
value_family p (BankRot _ _ _ _ _) h = absurd (true≢false h)
value_family p (RtRot _ _ _ _ _ _) h = absurd (true≢false h)
value_family p (HeapInsert _ _ _) h = absurd (true≢false h)
value_family p (HeapMerge _ _ _ _) h = absurd (true≢false h)
value_family p (LinkAll _ _ _ _ _) h = absurd (true≢false h)
value_family p (PushL _ _ _ _ _ _ _ _) h = absurd (true≢false h)
value_family p (PushR _ _ _ _ _ _ _ _) h = absurd (true≢false h)
value_family p (DeepL _ _ _ _ _ _) h = absurd (true≢false h)
value_family p (DeepR _ _ _ _ _ _) h = absurd (true≢false h)
value_family p (Concat _ _ _ _ _ _ _) h = absurd (true≢false h)
value_family p _ h = refl

value_settled : (w : World) (p : ℕ) (r : Rec) → is_pending r ≡ false → is_settled w p r ≡ true
value_settled w p (BankRot _ _ _ _ _) h = absurd (true≢false h)
value_settled w p _ h = refl

-- of a value a put asks its laws, and credits for what it shows first
pub fits_value : {v : View} (p : ℕ) (r : Rec) → is_pending r ≡ false → HasLaws (show v.seen p r (Unforced 0)) p r → gain_at v.seen p r ≤ v.hand.credits + brings (recs v.seen) v.hand.claims → Fits v p r
fits_value {v} p r value laws gain =
    let f = value_family p r value in
    record {
      laws = laws;
      origin = rw f (eq-eqb p p refl);
      follows = λ i e. absurd (let z : 0 ≡ suc i = rw f at e in omega (arith, z));
      settled = value_settled v.seen p r value;
      paid = gain;
    }

-- ---- cells of items

pub fits_cons : {v : View} → IsLawfulView v → (p : ℕ) → contains v.hand.reserved p ≡ true → (value : ℕ) (rest : Ref) → value < 18446744073709551616 → IsNamedWell (recs v.seen) p (rest.0, sorts.Stream) → Fits v p (Cons false value rest)
fits_cons {v} law p held value rest f n = fits_value p (Cons false value rest) refl (record {
  range = range_from (Cons false value rest) (omega arith, (omega arith, (f, (omega (arith, n.0, place_fits law p held), tt)))) refl;
  names = put_names law p held (Cons false value rest) (n, tt);
  sizes = refl;
  unmixed = refl;
  bank_queue = refl;
  rt_queue = refl;
  heap = refl;
  cat = refl;
  finger = refl;
  heights = refl;
}) (free v.seen p (Cons false value rest) (v.hand.credits + brings (recs v.seen) v.hand.claims) refl)

pub fits_list_cons : {v : View} → IsLawfulView v → (p : ℕ) → contains v.hand.reserved p ≡ true → (value : ℕ) (rest : Ref) → value < 18446744073709551616 → IsNamedWell (recs v.seen) p (rest.0, sorts.List) → Fits v p (LCons false value rest)
fits_list_cons {v} law p held value rest f n = fits_value p (LCons false value rest) refl (record {
  range = range_from (LCons false value rest) (omega arith, (omega arith, (f, (omega (arith, n.0, place_fits law p held), tt)))) refl;
  names = put_names law p held (LCons false value rest) (n, tt);
  sizes = refl;
  unmixed = refl;
  bank_queue = refl;
  rt_queue = refl;
  heap = refl;
  cat = refl;
  finger = refl;
  heights = refl;
}) (free v.seen p (LCons false value rest) (v.hand.credits + brings (recs v.seen) v.hand.claims) refl)
