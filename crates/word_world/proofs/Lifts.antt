-- A record that may be put in a world that was seen may be put in the world as it is.
use Rattle.std.proofs.Common.{◌≡◌, ◌≢◌, ℕ, zero, suc, ◌+◌, ◌<◌, ◌≤◌, List, [], ◌∷◌, length, refl, sym, ap, ◌∙◌, arith, Bool, true, false, cond, not, ◌&&◌, Option, Some, None, eqb, leb, ltb, ⊎_elim}
use Rattle.std.specs.Prelude.{option_map, filter}
use Rattle.std.specs.List.{list_all}
use Rattle.std.proofs.lemmas.Grind.{common_steps}
use Rattle.std.proofs.lemmas.Bool.{true≢false, cases_eq, and_parts, and_from, or_left, eq-eqb}
use Rattle.lazy_rec.specs.declared.records.Rec.{Rec}
use Rattle.lazy_rec.specs.declared.states.SuspState.{SuspState}
use Rattle.lazy_rec.specs.declared.states.SuspState.TheVariants.{Unforced}
use Rattle.lazy_rec.specs.Named.{Records, is_pending}
use Rattle.lazy_rec.specs.Units.{family_of}
use Rattle.heap_store.specs.declared.nodes.Node.{Node}
use Rattle.heap_store.specs.declared.claims.HeldClaim.{HeldClaim}
use Rattle.heap_store.specs.World.{World, recs, node_at, state_at, show, is_published}
use Rattle.heap_store.specs.Growth.{Grows}
use Rattle.heap_store.specs.Completion.{is_next}
use Rattle.heap_store.specs.Lawful.{HasLaws, IsLawful, has_origin}
use Rattle.heap_store.specs.Hand.{Hand, IsLawfulHand, contains, all_distinct, claim_places, holds_claim, is_later, newest_makes, is_claim_well, without, hand_put}
use Rattle.heap_store.proofs.NameLaws.{NamesWell}
use Rattle.heap_store.proofs.GrowthLaws.{at_true}
use Rattle.heap_store.proofs.ShowLaws.{one_value, show_adds, state-same, state-other}
use Rattle.heap_store.proofs.MadeLaws.{is_next_up}
use Rattle.heap_store.proofs.LawfulLaws.{laws_up, lawful_names, lawful_put}
use Rattle.heap_store.proofs.PlainSeen.{claims-put, other_apart, well-put, newest_alone, first_apart}
use Rattle.heap_store.proofs.Steps.{places-mark}
use Rattle.heap_store.proofs.PlainSteps.{marked-newest}
use Rattle.heap_store.specs.Budget.{gain, discharged, is_settled}
use Rattle.lazy_rec.specs.Units.{same_unit}
use Rattle.std.specs.Set.{is_member}
use Rattle.heap_store.proofs.BudgetKept.{settled_up}
use Rattle.heap_store.proofs.BudgetSteps.{put_names}
use Rattle.heap_store.proofs.GainLaws.{NamesThere, discharged_kept, gain_falls}

module _ (a b : World) (p : ℕ) (r : Rec) (s : SuspState) (ia : p < length a.nodes) (ib : p < length b.nodes) (na : node_at a p ≡ None) (nb : node_at b p ≡ None) (x : Grows a b) where
  -- the same place is filled in both
  pub show_up : Grows (show a p r s) (show b p r s)
  show_up =
      let aa = show_adds a p r s ia na in let bb = show_adds b p r s ib nb in
      record {
        records = λ q t e. ⊎_elim
            (λ eq. ap (recs (show b p r s)) eq ∙ (bb.there ∙ (sym aa.there ∙ (ap (recs (show a p r s)) (sym eq) ∙ e))))
            (λ ne. bb.others q ne ∙ x.records q t (sym (aa.others q ne) ∙ e)) (cases_eq q p);
        done = λ q t e k. ⊎_elim
            (λ eq. ap (state_at (show b p r s)) eq ∙ (state-same b p r s ib ∙ (sym (state-same a p r s ia) ∙ (ap (state_at (show a p r s)) (sym eq) ∙ e))))
            (λ ne. state-other b p r s ib q ne ∙ x.done q t (sym (state-other a p r s ia q ne) ∙ e) k) (cases_eq q p);
        given_up = λ q t u e f. ⊎_elim
            (λ eq. (let y = one_value t s (sym e ∙ (ap (state_at (show a p r s)) eq ∙ state-same a p r s ia)) in let z = one_value u s (sym f ∙ (ap (state_at (show b p r s)) eq ∙ state-same b p r s ib)) in rw (y, z) (omega arith)))
            (λ ne. x.given_up q t u (sym (state-other a p r s ia q ne) ∙ e) (sym (state-other b p r s ib q ne) ∙ f)) (cases_eq q p);
        begun = x.begun;
        ended = x.ended;
      }

-- what the newest claim makes next lasts
pub newest_up : (a b : World) → NamesWell (recs a) → Grows a b → (cs : List HeldClaim) (origin off : ℕ) (r : Rec) → newest_makes a cs origin off r ≡ true → newest_makes b cs origin off r ≡ true
newest_up a b names x [] origin off r h = h
newest_up a b names x (c ∷ cs) origin off r h =
    let k = and_parts (not c.passed) _ h in
    let t = at_true (λ s. is_pending s && eqb (family_of c.place.0 s).0 origin && eqb (suc (family_of c.place.0 s).1) off && is_next a s r) (recs a c.place.0) k.1 in
    let m = and_parts _ _ t.2 in
    and_from (not c.passed) _ k.0 (rw (x.records c.place.0 t.0 t.1) (and_from _ _ m.0 (is_next_up a b names x c.place.0 t.0 r t.1 m.1)))

pub without_other : (p q : ℕ) (xs : List ℕ) → q ≢ p → contains (without p (p + 1) xs) q ≡ contains xs q
without_other p q [] ne = refl
without_other p q (y ∷ ys) ne = let ih = without_other p q ys ne in grind (arith, common_steps, ih, ne)

pub without_same : (p : ℕ) (xs : List ℕ) → contains (without p (p + 1) xs) p ≡ false
without_same p [] = refl
without_same p (y ∷ ys) = let ih = without_same p ys in grind (arith, common_steps, ih)

pub without_in : (p q : ℕ) (xs : List ℕ) → contains (without p (p + 1) xs) q ≡ true → (q ≢ p) × (contains xs q ≡ true)
without_in p q xs h = let ne : q ≢ p = λ eq. true≢false (sym h ∙ (ap (contains (without p (p + 1) xs)) eq ∙ without_same p xs)) in (ne, sym (without_other p q xs ne) ∙ h)

absent_filter : (f : ℕ → Bool) (y : ℕ) (ys : List ℕ) → contains ys y ≡ false → contains (filter f ys) y ≡ false
absent_filter f y [] h = refl
absent_filter f y (z ∷ zs) h = let ih = absent_filter f y zs in grind (arith, common_steps, ih, h)

pub distinct_filter : (f : ℕ → Bool) (xs : List ℕ) → all_distinct xs ≡ true → all_distinct (filter f xs) ≡ true
distinct_filter f [] h = refl
distinct_filter f (x ∷ xs) h =
    let k = and_parts (not (contains xs x)) _ h in
    by (f x) (distinct_filter f xs k.1) (absent_filter f x xs (not_true' (contains xs x) k.0))
  where
    not_true' : (b : Bool) → not b ≡ true → b ≡ false
    not_true' true e = absurd (true≢false (sym e))
    not_true' false e = refl

    by : (b : Bool) → all_distinct (filter f xs) ≡ true → contains (filter f xs) x ≡ false → all_distinct (cond b (x ∷ filter f xs) (filter f xs)) ≡ true
    by true d m = and_from _ _ (ap not m) d
    by false d m = d

-- ---- in the world as it is

module _ (base w : World) (p : ℕ) (r : Rec) (inside : p < length w.nodes) (none : node_at w p ≡ None) (law : IsLawful w)
    (base_in : p < length base.nodes) (base_law : IsLawful base) (with : IsLawful (show base p r (Unforced 0))) (x : Grows base w) (laws : HasLaws (show base p r (Unforced 0)) p r)
    (h : Hand) (hand : IsLawfulHand w h) (origin : has_origin p r ≡ true) (follows : (i : ℕ) → (family_of p r).1 ≡ suc i → newest_makes base h.claims (family_of p r).0 (suc i) r ≡ true) where
  pub base_none : node_at base p ≡ None
  base_none = by (node_at base p) refl
    where
      by : (o : Option Node) → node_at base p ≡ o → node_at base p ≡ None
      by None e = e
      by (Some n) e =
          let here = x.records p n.rec (ap (option_map (λ (m : Node). m.rec)) e) in
          let gone : None ≡ Some n.rec = sym (ap (option_map (λ (m : Node). m.rec)) none) ∙ here in cc

  pub laws_now : HasLaws (show w p r (Unforced 0)) p r
  laws_now = laws_up (show base p r (Unforced 0)) (show w p r (Unforced 0)) (lawful_names with) (show_up base w p r (Unforced 0) base_in inside base_none none x) p r (show_adds base p r (Unforced 0) base_in base_none).there laws

  pub names_base : NamesThere (recs base) r
  names_base = put_names base p r base_in base_none base_law laws.names

  pub names_now : NamesThere (recs w) r
  names_now = put_names w p r inside none law laws_now.names

  -- a rotation that stands on no unpaid family does so in a greater world
  pub settled_now : length base.nodes ≡ length w.nodes → is_settled base p r ≡ true → is_settled w p r ≡ true
  settled_now size = settled_up base w x.records (λ u h. ap (λ n. is_member same_unit (discharged (recs w) n) u) (sym size) ∙ discharged_kept (recs base) (recs w) (lawful_names base_law) x.records (length base.nodes) u h) p r names_base

  pub gain_now : length base.nodes ≡ length w.nodes → gain (length w.nodes) (recs w) p r ≤ gain (length base.nodes) (recs base) p r
  gain_now size = let less = gain_falls (recs base) (recs w) (lawful_names base_law) x.records (length base.nodes) p r names_base in omega (arith, less, ap (λ n. gain n (recs w) p r) size)

  pub follows_now : (i : ℕ) → (family_of p r).1 ≡ suc i → newest_makes w h.claims (family_of p r).0 (suc i) r ≡ true
  follows_now i e = newest_up base w (lawful_names base_law) x h.claims (family_of p r).0 (suc i) r (follows i e)

  pub lawful_now : IsLawful (show w p r (Unforced 0))
  lawful_now = lawful_put w p r inside none law h hand origin follows_now laws_now

  published_more : (q : ℕ) → q ≢ p → is_published (recs (show w p r (Unforced 0))) q ≡ is_published (recs w) q
  published_more q ne = ap (Rattle.lazy_rec.specs.Named.at_record false (λ _. true)) ((show_adds w p r (Unforced 0) inside none).others q ne)

  -- the hand that published
  pub hand_now : (rs : Records) (spent : ℕ) → IsLawfulHand (show w p r (Unforced 0)) (hand_put rs h p r spent)
  hand_now rs spent = record {
    claims = well-put w p r inside none law h.claims hand.claims hand.claims_once follows_now (family_of p r).1 refl;
    marked = marked-newest (is_later p r) h.claims hand.marked;
    claims_once = ap all_distinct (places-mark (is_later p r) h.claims) ∙ hand.claims_once;
    reserved = λ q m. (let t = without_in p q h.reserved m in published_more q t.0 ∙ hand.reserved q t.1);
    reserved_once = distinct_filter (λ q. not (leb p q && ltb q (p + 1))) h.reserved hand.reserved_once;
    names = hand.names;
    names_once = hand.names_once;
  }

  -- another hand, which has none of its claims and not its place
  pub hand_other : (u : Hand) → IsLawfulHand w u → contains u.reserved p ≡ false → ((q : ℕ) → holds_claim u q ≡ true → holds_claim h q ≡ true → ⊥) → IsLawfulHand (show w p r (Unforced 0)) u
  hand_other u ours absent apart = record {
    claims = by (family_of p r).1 refl;
    marked = ours.marked;
    claims_once = ours.claims_once;
    reserved = λ q m. published_more q (λ eq. true≢false (sym m ∙ (ap (contains u.reserved) eq ∙ absent))) ∙ ours.reserved q m;
    reserved_once = ours.reserved_once;
    names = ours.names;
    names_once = ours.names_once;
  }
    where
      newest : (cs : List HeldClaim) (i : ℕ) → (family_of p r).1 ≡ suc i → newest_makes w cs (family_of p r).0 (suc i) r ≡ true → ((q : ℕ) → contains (claim_places u.claims) q ≡ true → contains (claim_places cs) q ≡ true → ⊥) → list_all (is_claim_well (show w p r (Unforced 0))) u.claims ≡ true
      newest [] i e m no' = absurd (true≢false (sym m))
      newest (c ∷ cs) i e m no' = claims-put w p r inside none law u.claims ours.claims (λ d had fresh t here claimed has.
          no' d.place.0 had (or_left (eqb c.place.0 d.place.0) _ (eq-eqb c.place.0 d.place.0 (sym (other_apart w p r inside none law c i (newest_alone w c cs (family_of p r).0 (suc i) r m) e d t here claimed has)))))

      by : (off : ℕ) → (family_of p r).1 ≡ off → list_all (is_claim_well (show w p r (Unforced 0))) u.claims ≡ true
      by zero e = claims-put w p r inside none law u.claims ours.claims (λ d had fresh t here claimed has. first_apart w p r inside none law d.place.0 t e has)
      by (suc i) e = newest h.claims i e (follows_now i e) apart
