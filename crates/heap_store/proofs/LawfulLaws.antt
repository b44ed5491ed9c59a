-- A world with one more record, or with another state of a suspension, is lawful.
use Rattle.std.proofs.Common.{◌≡◌, ℕ, zero, suc, ◌<◌, ◌≤◌, refl, sym, ap, ◌∙◌, arith, eqb, ltb, Bool, true, false, not, ◌||◌, ◌⊎◌, ⊎_elim, Option, Some, None, List, [], ◌∷◌, length}
use Rattle.std.specs.Prelude.{option_map, option_and_then, slice_index_or}
use Rattle.std.specs.List.{AllByRecursion, list_all}
use Rattle.std.proofs.lemmas.Bool.{true≢false, cases_eq, and_parts, and_from, or_cases, or_left, or_right, eqb-true, eq-eqb}
use Rattle.lazy_rec.specs.declared.records.Rec.{Rec}
use Rattle.lazy_rec.specs.declared.records.Rec.TheVariants as recs_of
use Rattle.lazy_rec.specs.declared.states.SuspState.{SuspState}
use Rattle.lazy_rec.specs.declared.states.SuspState.TheVariants.{Unforced}
use Rattle.lazy_rec.specs.Named.{Records, NamedPlace, named, is_pending}
use Rattle.lazy_rec.specs.States.{kept, given_up, is_claimed, state_in_range}
use Rattle.lazy_rec.specs.Tests.{is_some_and}
use Rattle.lazy_rec.specs.Units.{family_of}
use Rattle.heap_store.specs.declared.nodes.Node.{Node}
use Rattle.heap_store.specs.declared.claims.HeldClaim.{HeldClaim}
use Rattle.heap_store.specs.World.{World, recs, node_at, state_at, done_at, show, holds, some_below, is_taken, is_claimed_at}
use Rattle.heap_store.specs.Growth.{Grows}
use Rattle.heap_store.specs.Completion.{is_next}
use Rattle.heap_store.specs.Lawful.{HasLaws, IsLawful, IsDoneWell, names_well, is_named_well, has_fixed, has_origin, has_maker, has_maker_at, is_maker}
use Rattle.heap_store.specs.Hand.{Hand, IsLawfulHand, newest_makes, is_at_offset, has_no_next, is_claim_well}
use Rattle.heap_store.proofs.NameLaws.{NamesWell, IsNamedWell, IsPublished}
use Rattle.heap_store.proofs.GrowthLaws.{Up, and_up, same_up, at_true, holds_up, names_of}
use Rattle.heap_store.proofs.RecordLaws.{sizes_up, unmixed_up, banks_up, rts_up, heaps_up, cats_up, fingers_up, low_names_up, done_well_up}
use Rattle.heap_store.proofs.MadeLaws.{is_next_up}
use Rattle.heap_store.proofs.ShowLaws.{one_value, new_or_old, node-same, node-other, show_adds, state-same, state-other, done-same, done-other, put_grows, recs-show, state_grows}

-- ---- searches over the records

pub some_to : (n : ℕ) (rs : Records) (test : ℕ → Rec → Bool) → some_below n rs test ≡ true → (q : ℕ) × (r : Rec) × (rs q ≡ Some r) × (test q r ≡ true)
some_to zero rs test h = absurd (true≢false (sym h))
some_to (suc n) rs test h = ⊎_elim
    (λ k. let t = at_true (test n) (rs n) k in (n, t.0, t.1, t.2))
    (λ k. some_to n rs test k) (or_cases (holds rs n (test n)) (some_below n rs test) h)

pub some_from : (n : ℕ) (rs : Records) (test : ℕ → Rec → Bool) (q : ℕ) (r : Rec) → q < n → rs q ≡ Some r → test q r ≡ true → some_below n rs test ≡ true
some_from zero rs test q r l e h = absurd (omega arith)
some_from (suc n) rs test q r l e h = ⊎_elim
    (λ same. let l : holds rs n (test n) ≡ true = rw (← same, e) h in or_left _ _ l)
    (λ ne. or_right _ _ (some_from n rs test q r (omega arith) e h)) (cases_eq q n)

beyond_end : (xs : List (Option Node)) (q : ℕ) (n : Node) → slice_index_or xs q None ≡ Some n → q < length xs
beyond_end [] q n e = cc
beyond_end (x ∷ xs) zero n e = omega arith
beyond_end (x ∷ xs) (suc q) n e = omega (arith, beyond_end xs q n e)

-- a published place is one of the world's
pub within : (w : World) (q : ℕ) (r : Rec) → recs w q ≡ Some r → q < length w.nodes
within w q r e = go (node_at w q) refl e
  where
    go : (o : Option Node) → node_at w q ≡ o → option_map (λ (n : Node). n.rec) o ≡ Some r → q < length w.nodes
    go None f h = cc
    go (Some n) f h = beyond_end w.nodes q n f

-- only pending records have later offsets
offset_pending : (q : ℕ) (t : Rec) (i : ℕ) → (family_of q t).1 ≡ suc i → is_pending t ≡ true
offset_pending q (recs_of.Append _ _ _ _ _) i e = refl
offset_pending q (recs_of.BankRot _ _ _ _ _) i e = refl
offset_pending q (recs_of.RtRot _ _ _ _ _ _) i e = refl
offset_pending q (recs_of.LinkAll _ _ _ _ _) i e = refl
offset_pending q (recs_of.PushL _ _ _ _ _ _ _ _) i e = refl
offset_pending q (recs_of.PushR _ _ _ _ _ _ _ _) i e = refl
offset_pending q (recs_of.DeepL _ _ _ _ _ _) i e = refl
offset_pending q (recs_of.DeepR _ _ _ _ _ _) i e = refl
offset_pending q (recs_of.Concat _ _ _ _ _ _ _) i e = refl
offset_pending q _ i e = cc

-- ---- growth

pub lawful_names : {w : World} → IsLawful w → NamesWell (recs w)
lawful_names {w} law = names_of w (λ p r e. (law.each p r e).names)

names_up : (a b : World) → Grows a b → (p : ℕ) (r : Rec) → Up (names_well a p r) (names_well b p r)
names_up a b x p r = by (named r)
  where
    by : (ns : List NamedPlace) → Up (list_all (is_named_well (recs a) p) ns) (list_all (is_named_well (recs b) p) ns)
    by [] = same_up
    by (n ∷ ns) = and_up (and_up {x = ltb n.0 p} same_up (holds_up a b x n.0 _ _ (λ k. same_up))) (by ns)

-- the laws of a record that names published places last, also where it isn't published yet
pub laws_named : (a b : World) → NamesWell (recs a) → Grows a b → (p : ℕ) (r : Rec) → AllByRecursion (IsNamedWell (recs a) p) (named r) → HasLaws a p r → HasLaws b p r
laws_named a b names x p r e h = record {
  range = h.range;
  names = names_up a b x p r h.names;
  sizes = sizes_up (recs a) (recs b) names x.records p r e h.sizes;
  unmixed = unmixed_up (recs a) (recs b) names x.records p r e h.unmixed;
  bank_queue = banks_up (recs a) (recs b) names x.records p r e h.bank_queue;
  rt_queue = rts_up a b names x p r e h.rt_queue;
  heap = heaps_up (recs a) (recs b) names x.records p r e h.heap;
  cat = cats_up a b names x p r e h.cat;
  finger = fingers_up (recs a) (recs b) names x.records p r e h.finger;
  heights = low_names_up (recs a) (recs b) names x.records p r e h.heights;
}

pub laws_up : (a b : World) → NamesWell (recs a) → Grows a b → (p : ℕ) (r : Rec) → recs a p ≡ Some r → HasLaws a p r → HasLaws b p r
laws_up a b names x p r e h = laws_named a b names x p r (names p r e) h

fixed_up : (a b : World) → Grows a b → Up (has_fixed (recs a)) (has_fixed (recs b))
fixed_up a b x = and_up (and_up (and_up (and_up (holds_up a b x 0 _ _ (λ r. same_up)) (holds_up a b x 1 _ _ (λ r. same_up))) (holds_up a b x 2 _ _ (λ r. same_up))) (holds_up a b x 3 _ _ (λ r. same_up))) (holds_up a b x 4 _ _ (λ r. same_up))

-- a Done place is published
pub done_there : {w : World} → IsLawful w → (p : ℕ) (d : ℕ × ℕ) → done_at w p ≡ Some d → IsPublished (recs w) d.0
done_there {w} law p d e = by (node_at w p) refl e
  where
    by : (o : Option Node) → node_at w p ≡ o → option_and_then (λ (n : Node). kept n.state) o ≡ Some d → IsPublished (recs w) d.0
    by None f k = cc
    by (Some n) f k =
        let well = law.done p n.rec (ap (option_map (λ (m : Node). m.rec)) f) d e in
        let t = at_true _ (recs w d.0) well.value in (t.0, t.1)

-- what a maker at one offset is, as facts
pub record Made (w : World) (origin off : ℕ) (r : Rec) : Type 0 where
  pub place : ℕ
  pub rec : Rec
  pub here : recs w place ≡ Some rec
  pub pending : is_pending rec ≡ true
  pub family : family_of place rec ≡ (origin, off)
  pub next : is_next w rec r ≡ true
  pub taken : is_taken w place ≡ true

pub made_to : (w : World) (origin off : ℕ) (r : Rec) → has_maker_at w r origin (suc off) ≡ true → Made w origin off r
made_to w origin off r h =
    let k = some_to (length w.nodes) (recs w) (is_maker w origin off r) h in
    let p1 = and_parts _ _ k.3 in
    let p2 = and_parts _ _ p1.0 in
    let p3 = and_parts _ _ p2.0 in
    let p4 = and_parts (is_pending k.1) _ p3.0 in
    let o = eqb-true _ _ p4.1 in
    let i = eqb-true _ _ p3.1 in
    record { place = k.0; rec = k.1; here = k.2; pending = p4.0; family = pair o i; next = p2.1; taken = p1.1 }
  where
    pair : {x y u v : ℕ} → x ≡ u → y ≡ v → ◌≡◌ {A = ℕ × ℕ} (x, y) (u, v)
    pair e f = rw (e, f) refl

made_from : (w : World) (origin off : ℕ) (r : Rec) → Made w origin off r → has_maker_at w r origin (suc off) ≡ true
made_from w origin off r m = some_from (length w.nodes) (recs w) (is_maker w origin off r) m.place m.rec (within w m.place m.rec m.here) m.here
    (and_from _ _ (and_from _ _ (and_from _ _ (and_from _ _ m.pending (eq-eqb _ _ (ap (λ (f : ℕ × ℕ). f.0) m.family))) (eq-eqb _ _ (ap (λ (f : ℕ × ℕ). f.1) m.family))) m.next) m.taken)

made_up : (a b : World) → NamesWell (recs a) → Grows a b → ((m : ℕ) → Up (is_taken a m) (is_taken b m)) → (origin off : ℕ) (r : Rec) → Made a origin off r → Made b origin off r
made_up a b names x up origin off r m = record {
  place = m.place;
  rec = m.rec;
  here = x.records m.place m.rec m.here;
  pending = m.pending;
  family = m.family;
  next = is_next_up a b names x m.place m.rec r m.here m.next;
  taken = up m.place m.taken;
}

maker_up : (a b : World) → NamesWell (recs a) → Grows a b → ((m : ℕ) → Up (is_taken a m) (is_taken b m)) → (r : Rec) (origin off : ℕ) → Up (has_maker_at a r origin off) (has_maker_at b r origin off)
maker_up a b names x up r origin zero h = h
maker_up a b names x up r origin (suc off) h = made_from b origin off r (made_up a b names x up origin off r (made_to a origin off r h))

-- the maker of a record that may be put, and that it has made none yet
pub record Ahead (w : World) (origin off : ℕ) (r : Rec) : Type 0 where
  pub made : Made w origin off r
  pub none_yet : has_no_next w made.place made.rec ≡ true

pub ahead_of : (w : World) (h : Hand) → IsLawfulHand w h → (origin i : ℕ) (r : Rec) → newest_makes w h.claims origin (suc i) r ≡ true → Ahead w origin i r
ahead_of w h hand origin i r = by h.claims hand.claims
  where
    pair : {x y u v : ℕ} → x ≡ u → y ≡ v → ◌≡◌ {A = ℕ × ℕ} (x, y) (u, v)
    pair e f = rw (e, f) refl

    by : (cs : List HeldClaim) → list_all (is_claim_well w) cs ≡ true → newest_makes w cs origin (suc i) r ≡ true → Ahead w origin i r
    by [] well k = absurd (true≢false (sym k))
    by (c ∷ cs) well k =
        let w1 = and_parts (is_claim_well w c) _ well in
        let w2 = and_parts (is_claimed_at w c.place.0) _ w1.0 in
        let k1 = and_parts (not c.passed) _ k in
        let t = at_true _ (recs w c.place.0) k1.1 in
        let p2 = and_parts _ _ t.2 in
        let p3 = and_parts _ _ p2.0 in
        let p4 = and_parts (is_pending t.0) _ p3.0 in
        let off : (family_of c.place.0 t.0).1 ≡ i = omega (arith, eqb-true _ _ p3.1) in
        record {
          made = record { place = c.place.0; rec = t.0; here = t.1; pending = p4.0; family = pair (eqb-true _ _ p4.1) off; next = p2.1; taken = or_right _ _ w2.0 };
          none_yet = not_passed c.passed k1.0 w2.1 t.0 t.1;
        }
      where
        not_passed : (b : Bool) → not b ≡ true → (b || holds (recs w) c.place.0 (λ s. has_no_next w c.place.0 s)) ≡ true → (t : Rec) → recs w c.place.0 ≡ Some t → has_no_next w c.place.0 t ≡ true
        not_passed true n o t e = absurd (true≢false (sym n))
        not_passed false n o t e = rw e at o

-- no record stands at the next offset
none_next : (w : World) (s : ℕ) (r : Rec) → has_no_next w s r ≡ true → (q : ℕ) (t : Rec) → recs w q ≡ Some t → is_pending t ≡ true → family_of q t ≡ ((family_of s r).0, suc (family_of s r).1) → ⊥
none_next w s r none q t e pend same =
    let found = some_from (length w.nodes) (recs w) (is_at_offset (family_of s r).0 (suc (family_of s r).1)) q t (within w q t e) e
    (and_from _ _ (and_from _ _ pend (eq-eqb _ _ (ap (λ (f : ℕ × ℕ). f.0) same))) (eq-eqb _ _ (ap (λ (f : ℕ × ℕ). f.1) same))) in
    let z : false ≡ true = sym (ap not found) ∙ none in absurd (true≢false (sym z))

-- a place that shows this is claimed or done
taken_of : Option Node → Bool
taken_of o = is_some_and (λ d. true) (option_and_then (λ (n : Node). kept n.state) o) || is_some_and (λ (n : Node). is_claimed n.state) o

-- ---- a record is put

module _ (w : World) (p : ℕ) (r : Rec) (inside : p < length w.nodes) (none : node_at w p ≡ None) (law : IsLawful w) where
  put_taken : (m : ℕ) → Up (is_taken w m) (is_taken (show w p r (Unforced 0)) m)
  unfolding taken_of
  put_taken m h = ⊎_elim
      (λ eq. absurd (true≢false (sym (sym (ap taken_of (ap (node_at w) eq ∙ none)) ∙ h))))
      (λ ne. ap taken_of (node-other w p r (Unforced 0) inside m ne) ∙ h) (cases_eq m p)

  -- no suspension of the world has the family and the offset of the new one
  module _ (h : Hand) (hand : IsLawfulHand w h) (origin : has_origin p r ≡ true) (follows : (i : ℕ) → (family_of p r).1 ≡ suc i → newest_makes w h.claims (family_of p r).0 (suc i) r ≡ true) where
    no_twin : (q : ℕ) (t : Rec) → recs w q ≡ Some t → is_pending t ≡ true → family_of q t ≡ family_of p r → ⊥
    no_twin q t e pend same = by (family_of p r).1 refl
      where
        by : (off : ℕ) → (family_of p r).1 ≡ off → ⊥
        by zero f =
            let own : eqb (family_of p r).0 p ≡ true = rw f at origin in
            let off : (family_of q t).1 ≡ 0 = ap (λ (z : ℕ × ℕ). z.1) same ∙ f in
            let its : eqb (family_of q t).0 q ≡ true = rw off at (law.origins q t e) in
            let eq : q ≡ p = sym (eqb-true _ _ its) ∙ ap (λ (z : ℕ × ℕ). z.0) same ∙ eqb-true _ _ own in
            let gone : None ≡ Some t = sym (ap (option_map (λ (n : Node). n.rec)) none) ∙ ap (recs w) (sym eq) ∙ e in cc
        by (suc i) f =
            let ahead = ahead_of w h hand (family_of p r).0 i r (follows i f) in
            let m = ahead.made in
            let two : family_of q t ≡ ((family_of m.place m.rec).0, suc (family_of m.place m.rec).1) = same ∙ pair_of (family_of p r) i f ∙ ap (λ (z : ℕ × ℕ). (z.0, suc z.1)) (sym m.family) in
            none_next w m.place m.rec ahead.none_yet q t e pend two
          where
            pair_of : (z : ℕ × ℕ) (i : ℕ) → z.1 ≡ suc i → z ≡ (z.0, suc i)
            pair_of z i e = rw (← e) refl

    new_maker : has_maker (show w p r (Unforced 0)) p r ≡ true
    new_maker = maker_up w (show w p r (Unforced 0)) (lawful_names law) (put_grows w p r (Unforced 0) inside none) put_taken r (family_of p r).0 (family_of p r).1 (by (family_of p r).1 refl)
      where
        by : (off : ℕ) → (family_of p r).1 ≡ off → has_maker_at w r (family_of p r).0 (family_of p r).1 ≡ true
        by zero f = rw f refl
        by (suc i) f = rw f (made_from w (family_of p r).0 i r (ahead_of w h hand (family_of p r).0 i r (follows i f)).made)

    -- the world with the record is lawful
    pub lawful_put : HasLaws (show w p r (Unforced 0)) p r → IsLawful (show w p r (Unforced 0))
    lawful_put laws =
        let b = show w p r (Unforced 0) in
        let x = put_grows w p r (Unforced 0) inside none in
        let names = lawful_names law in
        record {
          fixed = fixed_up w b x law.fixed;
          each = λ q t e. ⊎_elim (λ k. rw (k.0, k.1) laws) (λ was. laws_up w b names x q t was (law.each q t was)) (new_or_old w p r (Unforced 0) inside none q t e);
          origins = λ q t e. ⊎_elim (λ k. rw (k.0, k.1) origin) (λ was. law.origins q t was) (new_or_old w p r (Unforced 0) inside none q t e);
          one = λ q t e pend q' t' e' pend' same. ⊎_elim
              (λ k. ⊎_elim (λ k'. k.0 ∙ sym k'.0) (λ was'. absurd (no_twin q' t' was' pend' (sym same ∙ rw (k.0, k.1) refl))) (new_or_old w p r (Unforced 0) inside none q' t' e'))
              (λ was. ⊎_elim (λ k'. absurd (no_twin q t was pend (same ∙ rw (k'.0, k'.1) refl))) (λ was'. law.one q t was pend q' t' was' pend' same) (new_or_old w p r (Unforced 0) inside none q' t' e'))
              (new_or_old w p r (Unforced 0) inside none q t e);
          makers = λ q t e. ⊎_elim (λ k. rw (k.0, k.1) new_maker) (λ was. maker_up w b names x put_taken t (family_of q t).0 (family_of q t).1 (law.makers q t was)) (new_or_old w p r (Unforced 0) inside none q t e);
          done = λ q t e d f. ⊎_elim
              (λ eq. (let z : None ≡ Some d = sym (done-same w p r (Unforced 0) inside) ∙ ap (done_at b) (sym eq) ∙ f in cc))
              (λ ne. (let was = sym ((show_adds w p r (Unforced 0) inside none).others q ne) ∙ e in let old = sym (done-other w p r (Unforced 0) inside q ne) ∙ f in done_well_up w b names x (done_there law) q t d was (law.done q t was d old)))
              (cases_eq q p);
          states = λ q s e. ⊎_elim
              (λ eq. (let z = one_value s (Unforced 0) (sym e ∙ ap (state_at b) eq ∙ state-same w p r (Unforced 0) inside) in rw z refl))
              (λ ne. law.states q s (sym (state-other w p r (Unforced 0) inside q ne) ∙ e)) (cases_eq q p);
          still = λ q t e pend s f. ⊎_elim
              (λ eq. (let z = one_value s (Unforced 0) (sym f ∙ ap (state_at b) eq ∙ state-same w p r (Unforced 0) inside) in rw z refl))
              (λ ne. law.still q t (sym ((show_adds w p r (Unforced 0) inside none).others q ne) ∙ e) pend s (sym (state-other w p r (Unforced 0) inside q ne) ∙ f)) (cases_eq q p);
        }

-- ---- a suspension shows another state

module _ (w : World) (p : ℕ) (r : Rec) (old s : SuspState) (inside : p < length w.nodes) (here : node_at w p ≡ Some (record { rec = r; state = old })) (law : IsLawful w)
    (open_yet : kept old ≡ None) (less : given_up old ≤ given_up s) where
  grown : Grows w (show w p r s)
  grown = state_grows w p r s inside old here open_yet less

  before : (q : ℕ) (t : Rec) → recs (show w p r s) q ≡ Some t → recs w q ≡ Some t
  before q t e = sym (recs-show w p r s inside old here q) ∙ e

  own : recs w p ≡ Some r
  own = ap (option_map (λ (n : Node). n.rec)) here

  -- the suspension stays claimed or done, or has made nothing yet
  abbrev pub Stays : Type 0
  Stays = (is_some_and (λ d. true) (kept s) || is_claimed s ≡ true) ⊎ (has_no_next w p r ≡ true)

  module _ (stays : Stays) where
    taken_still : (origin i : ℕ) (q : ℕ) (t : Rec) → recs w q ≡ Some t → family_of q t ≡ (origin, suc i) → (m : Made w origin i t) → is_taken (show w p r s) m.place ≡ true
    unfolding taken_of
    taken_still origin i q t e f m = ⊎_elim
        (λ eq. ⊎_elim
        (λ k. ap (is_taken (show w p r s)) eq ∙ (ap taken_of (node-same w p r s inside) ∙ k))
        (λ none. absurd (none_next w p r none q t e (offset_pending q t i (ap (λ (z : ℕ × ℕ). z.1) f)) (f ∙ ap (λ (z : ℕ × ℕ). (z.0, suc z.1)) (sym (family_here eq)))))
        stays)
        (λ ne. ap (taken_of) (node-other w p r s inside m.place ne) ∙ m.taken)
        (cases_eq m.place p)
      where
        family_here : m.place ≡ p → family_of p r ≡ (origin, i)
        family_here eq = (let same : m.rec ≡ r = one_value m.rec r (sym m.here ∙ ap (recs w) eq ∙ own) in rw (← same, ← eq) m.family)

    new_makers : (q : ℕ) (t : Rec) → recs w q ≡ Some t → has_maker (show w p r s) q t ≡ true
    new_makers q t e = by (family_of q t).1 refl
      where
        by : (off : ℕ) → (family_of q t).1 ≡ off → has_maker_at (show w p r s) t (family_of q t).0 (family_of q t).1 ≡ true
        by zero f = rw f refl
        by (suc i) f =
            let h : has_maker_at w t (family_of q t).0 (suc i) ≡ true = rw f at (law.makers q t e) in
            let m = made_to w (family_of q t).0 i t h in
            let both : family_of q t ≡ ((family_of q t).0, suc i) = pair_of (family_of q t) i f in
            rw f (made_from (show w p r s) (family_of q t).0 i t (record {
              place = m.place;
              rec = m.rec;
              here = grown.records m.place m.rec m.here;
              pending = m.pending;
              family = m.family;
              next = is_next_up w (show w p r s) (lawful_names law) grown m.place m.rec t m.here m.next;
              taken = taken_still (family_of q t).0 i q t e both m;
            }))
          where
            pair_of : (z : ℕ × ℕ) (i : ℕ) → z.1 ≡ suc i → z ≡ (z.0, suc i)
            pair_of z i e = rw (← e) refl

    -- the world is lawful, where a Done state is well done
    pub lawful_state : is_pending r ≡ true → state_in_range s ≡ true → ((d : ℕ × ℕ) → kept s ≡ Some d → IsDoneWell w p r d) → IsLawful (show w p r s)
    lawful_state pend range well =
        let b = show w p r s in
        let names = lawful_names law in
        record {
          fixed = fixed_up w b grown law.fixed;
          each = λ q t e. laws_up w b names grown q t (before q t e) (law.each q t (before q t e));
          origins = λ q t e. law.origins q t (before q t e);
          one = λ q t e pend' q' t' e' pend'' same. law.one q t (before q t e) pend' q' t' (before q' t' e') pend'' same;
          makers = λ q t e. new_makers q t (before q t e);
          done = λ q t e d f. ⊎_elim
              (λ eq. (let k = well d (sym (done-same w p r s inside) ∙ ap (done_at b) (sym eq) ∙ f) in
              let same : t ≡ r = one_value t r (sym (before q t e) ∙ ap (recs w) eq ∙ own) in
              rw (eq, same) (done_well_up w b names grown (done_there law) p r d own k)))
              (λ ne. done_well_up w b names grown (done_there law) q t d (before q t e) (law.done q t (before q t e) d (sym (done-other w p r s inside q ne) ∙ f)))
              (cases_eq q p);
          states = λ q u e. ⊎_elim
              (λ eq. (let z = one_value u s (sym e ∙ ap (state_at b) eq ∙ state-same w p r s inside) in rw z range))
              (λ ne. law.states q u (sym (state-other w p r s inside q ne) ∙ e)) (cases_eq q p);
          still = λ q t e no u f. ⊎_elim
              (λ eq. (let same : t ≡ r = one_value t r (sym (before q t e) ∙ ap (recs w) eq ∙ own) in let z : true ≡ false = sym pend ∙ (rw same at no) in absurd (true≢false z)))
              (λ ne. law.still q t (before q t e) no u (sym (state-other w p r s inside q ne) ∙ f)) (cases_eq q p);
        }
