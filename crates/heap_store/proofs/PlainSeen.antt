-- What each call keeps of a world of one thread and the claims on it.
use Rattle.std.proofs.Common.{◌≡◌, ◌≢◌, ℕ, zero, suc, ◌<◌, Bool, true, false, List, [], ◌∷◌, length, Option, Some, None, refl, sym, ap, ◌∙◌, arith, subst, ⊎_elim, cond, not, ◌&&◌, ◌||◌, eqb, ltb}
use Rattle.std.specs.Prelude.{option_map, option_and_then}
use Rattle.std.specs.List.{list_all, list_any}
use Rattle.std.proofs.lemmas.Grind.{common_steps}
use Rattle.std.proofs.lemmas.Bool.{cases_eq, true≢false, and_parts, and_from, or_cases, or_left, or_right, eqb-true, eq-eqb}
use Rattle.std.proofs.lemmas.List.{length-set}
use Rattle.lazy_rec.specs.declared.records.Rec.{Rec}
use Rattle.lazy_rec.specs.declared.places.Ref.{Ref}
use Rattle.lazy_rec.specs.declared.states.SuspState.{SuspState}
use Rattle.lazy_rec.specs.declared.states.SuspState.TheVariants.{Unforced, Claimed, Done}
use Rattle.lazy_rec.specs.Named.{Records, is_pending}
use Rattle.lazy_rec.specs.States.{kept, is_claimed}
use Rattle.lazy_rec.specs.Tests.{is_some_and, implies}
use Rattle.lazy_rec.specs.Units.{family_of}
use Rattle.heap_store.specs.declared.nodes.Node.{Node}
use Rattle.heap_store.specs.declared.claims.HeldClaim.{HeldClaim}
use Rattle.heap_store.specs.World.{World, recs, node_at, state_at, show, holds, some_record, some_below, is_claimed_at, is_taken}
use Rattle.heap_store.specs.Growth.{Grows}
use Rattle.heap_store.specs.Lawful.{IsLawful, HasLaws, has_origin, has_maker_at, is_maker, is_still}
use Rattle.heap_store.specs.Hand.{is_marked_well, Hand, IsLawfulHand, contains, all_distinct, claim_places, fresh_claim, mark_newest, is_later, without_claim, newest_makes, is_at_offset, has_no_next, is_claim_well}
use Rattle.heap_store.specs.Plain.{IsSeenWell}
use Rattle.heap_store.proofs.GrowthLaws.{at_true}
use Rattle.heap_store.proofs.ShowLaws.{new_or_old, node-same, node-other, put_grows, recs-show, recs-show-all}
use Rattle.heap_store.proofs.LawfulLaws.{some_to, some_from, within, lawful_names, lawful_put}
use Rattle.heap_store.proofs.RowLaws.{legal_kept, roots_kept}
use Rattle.heap_store.proofs.Steps.{places-mark}
use Rattle.heap_store.proofs.PlainLists.{without_claim-absent, contains-without_other, contains-without_same}

-- whether a place shows a claimed suspension
abbrev pub claimed_of : Option Node → Bool
claimed_of o = is_some_and (λ (n : Node). is_claimed n.state) o

-- a test is false where its truth is absurd
pub not_true : (b : Bool) → (b ≡ true → ⊥) → b ≡ false
not_true true h = absurd (h refl)
not_true false h = refl

pub not_false : (b : Bool) → (b ≡ false → ⊥) → b ≡ true
not_false true h = refl
not_false false h = absurd (h refl)

later_suc : (i : ℕ) → ltb 0 (suc i) ≡ true
later_suc i = grind (arith, common_steps)

claim_of : (o : Option Node) → claimed_of o ≡ true → (n : Node) × (o ≡ Some n) × (is_claimed n.state ≡ true)
claim_of None e = absurd (true≢false (sym e))
claim_of (Some n) e = (n, refl, e)

still_unclaimed : (s : SuspState) → is_still s ≡ true → is_claimed s ≡ true → ⊥
still_unclaimed (Unforced k) e f = true≢false (sym f)
still_unclaimed (Claimed k) e f = true≢false (sym e)
still_unclaimed (Done place steps k) e f = true≢false (sym f)

-- a claimed place shows pending work
pub claimed_pending : (w : World) → IsLawful w → (p : ℕ) → is_claimed_at w p ≡ true → (r : Rec) → recs w p ≡ Some r → is_pending r ≡ true
claimed_pending w law p c r e =
    let n = claim_of (node_at w p) c in
    let st : state_at w p ≡ Some n.0.state = ap (option_map (λ (m : Node). m.state)) n.1 in
    not_false (is_pending r) (λ f. still_unclaimed n.0.state (law.still p r e f n.0.state st) n.2)

-- ---- the next offset

-- what has the next offset of the record t at s
next_at : ℕ → Rec → ℕ → Rec → Bool
next_at s t = is_at_offset (family_of s t).0 (suc (family_of s t).1)

same_family : (x y : ℕ × ℕ) → x.0 ≡ y.0 → x.1 ≡ y.1 → x ≡ y
same_family x y e f = by x.0 x.1 y.0 y.1 e f
  where
    by : (a b c d : ℕ) → a ≡ c → b ≡ d → ◌≡◌ {A = ℕ × ℕ} (a, b) (c, d)
    by a b c d e f = rw (e, f) refl

pub record HasOffset (origin off q : ℕ) (t : Rec) : Type 0 where
  pub pending : is_pending t ≡ true
  pub origin_is : (family_of q t).0 ≡ origin
  pub off_is : (family_of q t).1 ≡ off

offset_to : (origin off q : ℕ) (t : Rec) → is_at_offset origin off q t ≡ true → HasOffset origin off q t
offset_to origin off q t h =
    let p1 = and_parts _ _ h in
    let p2 = and_parts (is_pending t) _ p1.0 in
    record { pending = p2.0; origin_is = eqb-true _ _ p2.1; off_is = eqb-true _ _ p1.1 }

-- ---- a record is put

module _ (w : World) (p : ℕ) (r : Rec) (inside : p < length w.nodes) (none : node_at w p ≡ None) (law : IsLawful w) where
  pub claimed-put : (q : ℕ) → is_claimed_at (show w p r (Unforced 0)) q ≡ is_claimed_at w q
  claimed-put q = ⊎_elim
      (λ e. rw e (ap claimed_of (node-same w p r (Unforced 0) inside) ∙ sym (ap claimed_of none)))
      (λ ne. ap claimed_of (node-other w p r (Unforced 0) inside q ne)) (cases_eq q p)

  no_next-put : (s : ℕ) (t : Rec) → has_no_next w s t ≡ true → (HasOffset (family_of s t).0 (suc (family_of s t).1) p r → ⊥) → has_no_next (show w p r (Unforced 0)) s t ≡ true
  no_next-put s t h apart = ap not (not_true (some_record (show w p r (Unforced 0)) (is_at_offset (family_of s t).0 (suc (family_of s t).1))) found)
    where
      found : some_record (show w p r (Unforced 0)) (is_at_offset (family_of s t).0 (suc (family_of s t).1)) ≡ true → ⊥
      found k =
          let b = show w p r (Unforced 0) in
          let x = some_to (length b.nodes) (recs b) (is_at_offset (family_of s t).0 (suc (family_of s t).1)) k in
          ⊎_elim
          (λ here. apart (offset_to (family_of s t).0 (suc (family_of s t).1) p r (subst (λ z. is_at_offset (family_of s t).0 (suc (family_of s t).1) p z ≡ true) here.1 (subst (λ z. is_at_offset (family_of s t).0 (suc (family_of s t).1) z x.1 ≡ true) here.0 x.3))))
          (λ was. (let y = some_from (length w.nodes) (recs w) (is_at_offset (family_of s t).0 (suc (family_of s t).1)) x.0 x.1 (within w x.0 x.1 was) was x.3 in let z : false ≡ true = sym (ap not y) ∙ h in true≢false (sym z)))
          (new_or_old w p r (Unforced 0) inside none x.0 x.1 x.2)

  -- a claim stays well, where the record isn't what it makes next
  claim-put : (c : HeldClaim) → is_claim_well w c ≡ true → (c.passed ≡ false → (t : Rec) → recs w c.place.0 ≡ Some t → HasOffset (family_of c.place.0 t).0 (suc (family_of c.place.0 t).1) p r → ⊥) → is_claim_well (show w p r (Unforced 0)) c ≡ true
  claim-put c h apart =
      let k = and_parts (is_claimed_at w c.place.0) _ h in
      and_from _ _ (claimed-put c.place.0 ∙ k.0) (passed_or c.passed refl k.1)
    where
      passed_or : (b : Bool) → c.passed ≡ b → (b || holds (recs w) c.place.0 (λ t. has_no_next w c.place.0 t)) ≡ true → (c.passed || holds (recs (show w p r (Unforced 0))) c.place.0 (λ t. has_no_next (show w p r (Unforced 0)) c.place.0 t)) ≡ true
      passed_or true e k = or_left _ _ e
      passed_or false e k =
          let t = at_true (λ t. has_no_next w c.place.0 t) (recs w c.place.0) k in
          or_right c.passed _ (rw ((put_grows w p r (Unforced 0) inside none).records c.place.0 t.0 t.1) (no_next-put c.place.0 t.0 t.2 (apart e t.0 t.1)))

  -- a claim that is marked is well
  marked-put : (later : Bool) (c : HeldClaim) → is_claim_well w c ≡ true → (later ≡ false → is_claim_well (show w p r (Unforced 0)) c ≡ true) → is_claim_well (show w p r (Unforced 0)) (record c { built = true; passed = c.passed || later }) ≡ true
  marked-put true c h same = and_from _ _ (claimed-put c.place.0 ∙ (and_parts (is_claimed_at w c.place.0) _ h).0) (or_left _ _ (or_right c.passed true refl))
  marked-put false c h same =
      let k = and_parts (is_claimed_at (show w p r (Unforced 0)) c.place.0) _ (same refl) in
      and_from _ _ k.0 (pass c.passed (holds (recs (show w p r (Unforced 0))) c.place.0 (λ t. has_no_next (show w p r (Unforced 0)) c.place.0 t)) k.1)
    where
      pass : (a b : Bool) → (a || b) ≡ true → (a || false || b) ≡ true
      pass true b e = refl
      pass false b e = e

  pub claims-put : (cs : List HeldClaim) → list_all (is_claim_well w) cs ≡ true → ((c : HeldClaim) → contains (claim_places cs) c.place.0 ≡ true → c.passed ≡ false → (t : Rec) → recs w c.place.0 ≡ Some t → is_claimed_at w c.place.0 ≡ true → HasOffset (family_of c.place.0 t).0 (suc (family_of c.place.0 t).1) p r → ⊥) → list_all (is_claim_well (show w p r (Unforced 0))) cs ≡ true
  claims-put [] h apart = refl
  claims-put (c ∷ cs) h apart =
      let k = and_parts (is_claim_well w c) _ h in
      let l = and_parts (is_claimed_at w c.place.0) _ k.0 in
      and_from _ _ (claim-put c k.0 (λ e t f. apart c (or_left _ _ (eq-eqb c.place.0 c.place.0 refl)) e t f l.0)) (claims-put cs k.1 (λ d m. apart d (or_right (eqb c.place.0 d.place.0) _ m)))

  -- the first of a family is no next one
  pub first_apart : (s : ℕ) (t : Rec) → (family_of p r).1 ≡ 0 → HasOffset (family_of s t).0 (suc (family_of s t).1) p r → ⊥
  first_apart s t e h = absurd (omega (arith, h.off_is, e))

  -- what the newest claim makes next is no other claim's next
  module _ (c : HeldClaim) (i : ℕ) (makes : newest_makes w (c ∷ []) (family_of p r).0 (suc i) r ≡ true) (off : (family_of p r).1 ≡ suc i) where
    newest : (t : Rec) × (recs w c.place.0 ≡ Some t) × (is_pending t ≡ true) × (family_of c.place.0 t ≡ ((family_of p r).0, i))
    newest =
        let k1 = and_parts (not c.passed) _ makes in
        let t = at_true _ (recs w c.place.0) k1.1 in
        let p2 = and_parts _ _ t.2 in
        let p3 = and_parts _ _ p2.0 in
        let p4 = and_parts (is_pending t.0) _ p3.0 in
        (t.0, t.1, p4.0, same_family (family_of c.place.0 t.0) ((family_of p r).0, i) (eqb-true _ _ p4.1) (omega (arith, eqb-true _ _ p3.1)))

    pub other_apart : (d : HeldClaim) (t : Rec) → recs w d.place.0 ≡ Some t → is_claimed_at w d.place.0 ≡ true → HasOffset (family_of d.place.0 t).0 (suc (family_of d.place.0 t).1) p r → d.place.0 ≡ c.place.0
    other_apart d t e claimed h =
        let n = newest in
        let same : family_of d.place.0 t ≡ family_of c.place.0 n.0 = same_family (family_of d.place.0 t) ((family_of p r).0, i) (sym h.origin_is) (omega (arith, h.off_is, off)) ∙ sym n.3 in
        law.one d.place.0 t e (claimed_pending w law d.place.0 claimed t e) c.place.0 n.0 n.1 n.2 same

distinct_head : (x : ℕ) (xs : List ℕ) (q : ℕ) → all_distinct (x ∷ xs) ≡ true → contains xs q ≡ true → q ≡ x → ⊥
distinct_head x xs q d m e = let k = and_parts (not (contains xs x)) _ d in let m' : contains xs x ≡ true = subst (λ z. contains xs z ≡ true) e m in let z : false ≡ true = sym (ap not m') ∙ k.0 in true≢false (sym z)

-- the newest claim alone says what it makes next
pub newest_alone : (w : World) (c : HeldClaim) (cs : List HeldClaim) (origin off : ℕ) (r : Rec) → newest_makes w (c ∷ cs) origin off r ≡ true → newest_makes w (c ∷ []) origin off r ≡ true
newest_alone w c cs origin off r h = h

module _ (w : World) (p : ℕ) (r : Rec) (inside : p < length w.nodes) (none : node_at w p ≡ None) (law : IsLawful w) where
  pub well-put : (cs : List HeldClaim) → list_all (is_claim_well w) cs ≡ true → all_distinct (claim_places cs) ≡ true → ((i : ℕ) → (family_of p r).1 ≡ suc i → newest_makes w cs (family_of p r).0 (suc i) r ≡ true) → (off : ℕ) → (family_of p r).1 ≡ off → list_all (is_claim_well (show w p r (Unforced 0))) (mark_newest (is_later p r) cs) ≡ true
  well-put [] h d makes off e = refl
  well-put (c ∷ cs) h d makes zero e =
      let k = claims-put w p r inside none law (c ∷ cs) h (λ x m no t f cl. first_apart w p r inside none law x.place.0 t e) in
      let l = and_parts (is_claim_well w c) _ h in
      let m = and_parts (is_claim_well (show w p r (Unforced 0)) c) _ k in
      and_from _ _ (marked-put w p r inside none law (is_later p r) c l.0 (λ _. m.0)) m.1
  well-put (c ∷ cs) h d makes (suc i) e =
      let l = and_parts (is_claim_well w c) _ h in
      let alone = newest_alone w c cs (family_of p r).0 (suc i) r (makes i e) in
      let later : is_later p r ≡ true = ap (ltb 0) e ∙ later_suc i in
      and_from _ _
      (marked-put w p r inside none law (is_later p r) c l.0 (λ no. absurd (true≢false (sym later ∙ no))))
      (claims-put w p r inside none law cs l.1 (λ x m no t f cl has. distinct_head c.place.0 (claim_places cs) x.place.0 d m (other_apart w p r inside none law c i alone e x t f cl has)))

  -- a world with one more record
  pub put_seen : (h : Hand) → IsLawfulHand w h → IsSeenWell w h.claims → HasLaws (show w p r (Unforced 0)) p r → has_origin p r ≡ true → ((i : ℕ) → (family_of p r).1 ≡ suc i → newest_makes w h.claims (family_of p r).0 (suc i) r ≡ true) → IsSeenWell (show w p r (Unforced 0)) (mark_newest (is_later p r) h.claims)
  put_seen h hand seen laws origin follows =
      let x = put_grows w p r (Unforced 0) inside none in
      let names = lawful_names law in
      let b = show w p r (Unforced 0) in
      record {
        lawful = lawful_put w p r inside none law h hand origin follows laws;
        legal = legal_kept w b.nodes names x seen.legal;
        roots = roots_kept w b.nodes names x seen.roots;
        well = well-put h.claims seen.well hand.claims_once follows (family_of p r).1 refl;
        held = λ q. ap (λ l. contains l q) (places-mark (is_later p r) h.claims) ∙ (seen.held q ∙ sym (claimed-put w p r inside none law q));
        wide = seen.wide;
        unended = seen.unended;
      }

-- ---- a suspension shows another state

module _ (w : World) (p : ℕ) (r : Rec) (old s : SuspState) (inside : p < length w.nodes) (here : node_at w p ≡ Some (record { rec = r; state = old })) where
  pub claimed-other : (q : ℕ) → q ≢ p → is_claimed_at (show w p r s) q ≡ is_claimed_at w q
  claimed-other q ne = ap claimed_of (node-other w p r s inside q ne)

  pub claimed-same : is_claimed_at (show w p r s) p ≡ is_claimed s
  claimed-same = ap claimed_of (node-same w p r s inside)

  pub no_next-state : (q : ℕ) (t : Rec) → has_no_next (show w p r s) q t ≡ has_no_next w q t
  no_next-state q t = ap not (by (recs (show w p r s)) (recs-show-all w p r s inside old here))
    where
      by : (rs : Records) → rs ≡ recs w → some_below (length (show w p r s).nodes) rs (is_at_offset (family_of q t).0 (suc (family_of q t).1)) ≡ some_below (length w.nodes) (recs w) (is_at_offset (family_of q t).0 (suc (family_of q t).1))
      by rs e = rw (e, length-set w.nodes p (Some (record { rec = r; state = s }))) refl

  claim-state : (c : HeldClaim) → c.place.0 ≢ p → is_claim_well w c ≡ true → is_claim_well (show w p r s) c ≡ true
  claim-state c ne h =
      let k = and_parts (is_claimed_at w c.place.0) _ h in
      and_from _ _ (claimed-other c.place.0 ne ∙ k.0) (passed_or c.passed refl k.1)
    where
      passed_or : (b : Bool) → c.passed ≡ b → (b || holds (recs w) c.place.0 (λ t. has_no_next w c.place.0 t)) ≡ true → (c.passed || holds (recs (show w p r s)) c.place.0 (λ t. has_no_next (show w p r s) c.place.0 t)) ≡ true
      passed_or true e k = or_left _ _ e
      passed_or false e k =
          let t = at_true (λ t. has_no_next w c.place.0 t) (recs w c.place.0) k in
          or_right c.passed _ (rw (recs-show w p r s inside old here c.place.0 ∙ t.1) (no_next-state c.place.0 t.0 ∙ t.2))

  pub claims-state : (cs : List HeldClaim) → list_all (is_claim_well w) cs ≡ true → list_all (is_claim_well (show w p r s)) (without_claim p cs) ≡ true
  claims-state [] h = refl
  claims-state (c ∷ cs) h =
      let k = and_parts (is_claim_well w c) _ h in
      by (eqb c.place.0 p) refl (claims-state cs k.1)
    where
      by : (b : Bool) → eqb c.place.0 p ≡ b → list_all (is_claim_well (show w p r s)) (without_claim p cs) ≡ true → list_all (is_claim_well (show w p r s)) (cond (not b) (c ∷ without_claim p cs) (without_claim p cs)) ≡ true
      by true e ih = ih
      by false e ih = and_from _ _ (claim-state c (λ same. true≢false (sym (eq-eqb c.place.0 p same) ∙ e)) (and_parts (is_claim_well w c) _ h).0) ih

  -- the rows' laws last
  module _ (claims : List HeldClaim) (seen : IsSeenWell w claims) (law : IsLawful (show w p r s)) (grows : Grows w (show w p r s)) where
    -- the claim is won
    pub won_seen : (place : Ref) → place.0 ≡ p → contains (claim_places claims) p ≡ false → is_claimed s ≡ true → has_no_next w p r ≡ true → IsSeenWell (show w p r s) (fresh_claim place ∷ claims)
    won_seen place same fresh claimed none =
        let b = show w p r s in
        let names = lawful_names seen.lawful in
        let others = subst (λ l. list_all (is_claim_well b) l ≡ true) (without_claim-absent p claims fresh) (claims-state claims seen.well) in
        let own : recs b place.0 ≡ Some r = rw same (recs-show w p r s inside old here p ∙ ap (option_map (λ (n : Node). n.rec)) here) in
        record {
          lawful = law;
          legal = legal_kept w b.nodes names grows seen.legal;
          roots = roots_kept w b.nodes names grows seen.roots;
          well = and_from _ _ (and_from _ _ (ap (is_claimed_at b) same ∙ (claimed-same ∙ claimed)) (rw own (ap (λ z. has_no_next b z r) same ∙ (no_next-state p r ∙ none)))) others;
          held = λ q. ⊎_elim
              (λ e. or_left _ _ (eq-eqb place.0 q (same ∙ sym e)) ∙ sym (ap (is_claimed_at b) e ∙ (claimed-same ∙ claimed)))
              (λ ne. ap (λ z. z || contains (claim_places claims) q) (not_true (eqb place.0 q) (λ e. ne (sym (eqb-true place.0 q e) ∙ same))) ∙ (seen.held q ∙ sym (claimed-other q ne)))
              (cases_eq q p);
          wide = seen.wide;
          unended = seen.unended;
        }

    -- the claim leaves the hand
    pub released_seen : is_claimed s ≡ false → IsSeenWell (show w p r s) (without_claim p claims)
    released_seen unclaimed =
        let b = show w p r s in
        let names = lawful_names seen.lawful in
        record {
          lawful = law;
          legal = legal_kept w b.nodes names grows seen.legal;
          roots = roots_kept w b.nodes names grows seen.roots;
          well = claims-state claims seen.well;
          held = λ q. ⊎_elim
              (λ e. subst (λ z. contains (claim_places (without_claim p claims)) z ≡ is_claimed_at b z) (sym e) (contains-without_same p claims ∙ sym (claimed-same ∙ unclaimed)))
              (λ ne. contains-without_other p claims q ne ∙ (seen.held q ∙ sym (claimed-other q ne)))
              (cases_eq q p);
          wide = seen.wide;
          unended = seen.unended;
        }

-- ---- the next offset of claims

taken_of_unforced : (w : World) (s : ℕ) (r : Rec) (g : ℕ) → node_at w s ≡ Some (record { rec = r; state = Unforced g }) → is_taken w s ≡ true → ⊥
taken_of_unforced w s r g e h = true≢false (sym h ∙ ap (λ o. is_some_and (λ d. true) (option_and_then (λ (n : Node). kept n.state) o) || is_some_and (λ (n : Node). is_claimed n.state) o) e)

-- what a maker is, as facts
pub record IsMaker (w : World) (origin off : ℕ) (q : ℕ) (t : Rec) : Type 0 where
  pub pending : is_pending t ≡ true
  pub origin_is : (family_of q t).0 ≡ origin
  pub off_is : (family_of q t).1 ≡ off
  pub taken : is_taken w q ≡ true

maker_to : (w : World) (origin off : ℕ) (r : Rec) (q : ℕ) (t : Rec) → is_maker w origin off r q t ≡ true → IsMaker w origin off q t
maker_to w origin off r q t h =
    let p1 = and_parts _ _ h in
    let p2 = and_parts _ _ p1.0 in
    let p3 = and_parts _ _ p2.0 in
    let p4 = and_parts (is_pending t) _ p3.0 in
    record { pending = p4.0; origin_is = eqb-true _ _ p4.1; off_is = eqb-true _ _ p3.1; taken = p1.1 }

-- an unforced suspension has made no next one
pub unforced_no_next : (w : World) → IsLawful w → (s : ℕ) (r : Rec) (g : ℕ) → node_at w s ≡ Some (record { rec = r; state = Unforced g }) → is_pending r ≡ true → has_no_next w s r ≡ true
unforced_no_next w law s r g e pending = ap not (not_true (some_record w (is_at_offset (family_of s r).0 (suc (family_of s r).1))) found)
  where
    own : recs w s ≡ Some r
    own = ap (option_map (λ (n : Node). n.rec)) e

    found : some_record w (is_at_offset (family_of s r).0 (suc (family_of s r).1)) ≡ true → ⊥
    found k =
        let x = some_to (length w.nodes) (recs w) (is_at_offset (family_of s r).0 (suc (family_of s r).1)) k in
        let f = offset_to (family_of s r).0 (suc (family_of s r).1) x.0 x.1 x.3 in
        let both : family_of x.0 x.1 ≡ ((family_of s r).0, suc (family_of s r).1) = same_family (family_of x.0 x.1) ((family_of s r).0, suc (family_of s r).1) f.origin_is f.off_is in
        let m : has_maker_at w x.1 (family_of s r).0 (suc (family_of s r).1) ≡ true = subst (λ (z : ℕ × ℕ). has_maker_at w x.1 z.0 z.1 ≡ true) both (law.makers x.0 x.1 x.2) in
        let y = some_to (length w.nodes) (recs w) (is_maker w (family_of s r).0 (family_of s r).1 x.1) m in
        let maker = maker_to w (family_of s r).0 (family_of s r).1 x.1 y.0 y.1 y.3 in
        let same = law.one y.0 y.1 y.2 maker.pending s r own pending (same_family (family_of y.0 y.1) (family_of s r) maker.origin_is maker.off_is) in
        taken_of_unforced w s r g e (subst (λ z. is_taken w z ≡ true) same maker.taken)

-- a claim whose attempt has published nothing
pub unbuilt_no_next : (w : World) (cs : List HeldClaim) (s : ℕ) (r : Rec) → list_all (is_claim_well w) cs ≡ true → list_all is_marked_well cs ≡ true → list_any (λ (c : HeldClaim). eqb c.place.0 s && not c.built) cs ≡ true → recs w s ≡ Some r → has_no_next w s r ≡ true
unbuilt_no_next w [] s r well marked h e = absurd (true≢false (sym h))
unbuilt_no_next w (c ∷ cs) s r well marked h e =
    let k = and_parts (is_claim_well w c) _ well in
    let m = and_parts (is_marked_well c) _ marked in
    ⊎_elim
    (λ here. (let t = and_parts (eqb c.place.0 s) _ here in let same = eqb-true c.place.0 s t.0 in by c.passed c.built same m.0 t.1 (and_parts (is_claimed_at w c.place.0) _ k.0).1))
    (λ there. unbuilt_no_next w cs s r k.1 m.1 there e)
    (or_cases (eqb c.place.0 s && not c.built) _ h)
  where
    by : (passed built : Bool) → c.place.0 ≡ s → implies passed built ≡ true → not built ≡ true → (passed || holds (recs w) c.place.0 (λ t. has_no_next w c.place.0 t)) ≡ true → has_no_next w s r ≡ true
    by true true same i n o = absurd (true≢false (sym n))
    by true false same i n o = absurd (true≢false (sym i))
    by false built same i n o =
        let o' : holds (recs w) s (λ t. has_no_next w s t) ≡ true = subst (λ z. holds (recs w) z (λ t. has_no_next w z t) ≡ true) same o in
        rw e at o'
