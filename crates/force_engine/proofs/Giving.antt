-- Claims that are given back.
use Rattle.std.proofs.Common.{◌≡◌, ℕ, ◌+◌, ◌-◌, ◌≤◌, Bool, true, false, not, List, [], ◌∷◌, ◌++◌, reverse, drop, refl, sym, ap, ◌∙◌, arith, subst, ⊎_elim}
use Rattle.std.specs.Prelude.{eqb, min}
use Rattle.std.specs.List.{list_all}
use Rattle.std.proofs.lemmas.Grind.{common_steps}
use Rattle.std.proofs.lemmas.List.{reverse-append}
use Rattle.std.proofs.lemmas.Bool.{true≢false, and_parts, or_left, or_right, or_cases, eq-eqb, eqb-true, ne_eqb, cases_eq}
use Rattle.lazy_rec.specs.declared.states.SuspState.{SuspState}
use Rattle.lazy_rec.specs.declared.states.SuspState.TheVariants.{Unforced, Claimed}
use Rattle.heap_store.specs.declared.claims.HeldClaim.{HeldClaim}
use Rattle.heap_store.specs.World.{World, recs, is_claimed_at, attempts_of, attempts_at}
use Rattle.heap_store.specs.Growth.{Grows}
use Rattle.heap_store.specs.Hand.{Hand, contains, all_distinct, claim_places, without_claim, fresh_claim, holds_claim, is_unbuilt, places_of_steps, is_claim_well}
use Rattle.heap_store.specs.View.{View, About, IsLawfulView, SameRows, GivenUp}
use Rattle.heap_store.proofs.GrowthLaws.{grows_refl, grows_trans}
use Rattle.heap_store.proofs.Steps.{SameRows_refl, SameRows_trans}
use Rattle.force_engine.specs.declared.stack.Frame.{Frame}
use Rattle.force_engine.specs.Stacked.{claims_of, places_of, places_for, claimed_places, KeepsMeans}
use Rattle.force_engine.specs.Forced.{Rose, RoseByOne, GivenBack}
use Rattle.heap_store.proofs.AttemptLaws.{attempts_grow, own_attempts, other_attempts}
use Rattle.heap_store.proofs.CauseLaws.{IsGivenBack}
use Rattle.heap_store.proofs.PlainSeen.{claimed_pending}
use Rattle.force_engine.proofs.Means.{claimed_there, claimed_state, places_cons, claim_places-frames, claimed_frames, well_frames, places_grow, means_refl, means_trans}

pub reverse-push : (xs : List Frame) (f : Frame) → reverse (xs ++ f ∷ []) ≡ f ∷ reverse xs
reverse-push xs f = reverse-append xs (f ∷ [])

-- ---- a claim in hand

-- giving a claim back raises the count of its suspension
pub given_rose : {a b : View} (p : ℕ) → is_claimed_at a.seen p ≡ true → GivenUp a b p → Rose a.seen b.seen p
given_rose {a} {b} p claimed g =
    let t = claimed_state a.seen p claimed in
    let before : attempts_at a.seen p ≡ t.0 = ap attempts_of t.1 in
    let after : attempts_at b.seen p ≡ min (t.0 + 1) 65535 = ap attempts_of (g.state t.0 t.1) in
    omega (arith, before, after)

-- by one, where no other works on the heap, and no other count
pub record Given (a b : World) (p : ℕ) : Type 0 where
  pub by_one : RoseByOne a b p
  pub others : (q : ℕ) → (q ≡ p → ⊥) → attempts_at b q ≡ attempts_at a q

pub given_one : {a b : View} (p : ℕ) → a.about.alone ≡ true → GivenUp a b p → Given a.seen b.seen p
given_one {a} {b} p alone g =
    let t = g.shown alone in
    let s : SuspState = Unforced (min (t.1 + 1) 65535) in
    let own : attempts_at a.seen p ≡ t.1 = ap attempts_of t.2 in
    subst (λ w. Given a.seen w p) (sym t.3) (record {
      by_one = own_attempts a.seen p t.0 s (Claimed t.1) t.2 ∙ sym (ap (λ n. min (n + 1) 65535) own);
      others = λ q ne. other_attempts a.seen p t.0 s q ne;
    })

pub without-others : (x : ℕ) (fs : List Frame) → contains (places_of fs) x ≡ false → without_claim x (claims_of fs) ≡ claims_of fs
without-others x [] h = refl
without-others x (f ∷ fs) h = let ih = without-others x fs in grind (arith, common_steps, ih)

-- a hand without its newest claim
pub without-newest : (cs : List HeldClaim) (f : Frame) (fs : List Frame) → claim_places cs ≡ places_of (f ∷ fs) → drop 1 cs ≡ claims_of fs → contains (places_of fs) f.place.0 ≡ false → without_claim f.place.0 cs ≡ claims_of fs
without-newest [] f fs p d n = absurd (cc)
without-newest (c ∷ cs) f fs p d n =
    let same : c.place.0 ≡ f.place.0 = cc in
    let rest : cs ≡ claims_of fs = d in
    let others = without-others f.place.0 fs n in
    rw (same, rest) (grind (arith, common_steps, others))

-- what is known of the newest of the claims in hand
pub record Newest (v : View) (f : Frame) (fs : List Frame) : Type 0 where
  pub claimed : is_claimed_at v.seen f.place.0 ≡ true
  pub other : contains (places_of fs) f.place.0 ≡ false
  pub unbuilt : is_unbuilt v.hand f.place.0 ≡ true
  pub held : holds_claim v.hand f.place.0 ≡ true

not_true : (b : Bool) → not b ≡ true → b ≡ false
not_true true h = absurd (true≢false (sym h))
not_true false h = refl

pub newest_of : {v : View} (f : Frame) (fs : List Frame) → IsLawfulView v → v.hand.claims ≡ claims_of (f ∷ fs) → Newest v f fs
newest_of {v} f fs law e =
    let well : list_all (is_claim_well v.seen) (claims_of (f ∷ fs)) ≡ true = rw e at law.hand.claims in
    let here : is_claim_well v.seen (fresh_claim f.place) ≡ true = (and_parts (is_claim_well v.seen (fresh_claim f.place)) (list_all (is_claim_well v.seen) (claims_of fs)) well).0 in
    let once : all_distinct (claim_places (claims_of (f ∷ fs))) ≡ true = rw e at law.hand.claims_once in
    let apart : not (contains (claim_places (claims_of fs)) f.place.0) ≡ true = (and_parts (not (contains (claim_places (claims_of fs)) f.place.0)) (all_distinct (claim_places (claims_of fs))) once).0 in
    let other : contains (claim_places (claims_of fs)) f.place.0 ≡ false = not_true (contains (claim_places (claims_of fs)) f.place.0) apart in
    record {
      claimed = (and_parts (is_claimed_at v.seen f.place.0) _ here).0;
      other = rw claim_places-frames at other;
      unbuilt = rw e (grind (arith, common_steps));
      held = rw e (grind (arith, common_steps));
    }

pub once_of : {v : View} (fs : List Frame) → IsLawfulView v → v.hand.claims ≡ claims_of fs → all_distinct (places_of fs) ≡ true
once_of {v} fs law e = rw (← claim_places-frames fs, ← e) law.hand.claims_once

-- ---- giving back one by one

-- of all claims in hand at the start these are left, and one attempt at each other was given back
pub record LeftAlone (start now : View) (all left : List Frame) : Type 0 where
  pub rows : SameRows start now
  pub drawn : now.drawn ≡ start.drawn
  pub by_one : (p : ℕ) → contains (places_of all) p ≡ true → contains (places_of left) p ≡ false → RoseByOne start.seen now.seen p
  pub waiting : (p : ℕ) → contains (places_of left) p ≡ true → attempts_at now.seen p ≡ attempts_at start.seen p
  pub others : (p : ℕ) → contains (places_of all) p ≡ false → attempts_at now.seen p ≡ attempts_at start.seen p

pub record Backing (start now : View) (all left : List Frame) : Type 0 where
  pub grows : Grows start.seen now.seen
  pub hand : now.hand ≡ record start.hand { claims = claims_of left; allowance = now.hand.allowance }
  pub room : claimed_places now ≤ now.hand.allowance
  pub means : KeepsMeans start now
  pub refusals : now.refusals ≡ start.refusals
  pub about : now.about ≡ start.about
  pub inside : (p : ℕ) → contains (places_of left) p ≡ true → contains (places_of all) p ≡ true
  pub rose : (p : ℕ) → contains (places_of all) p ≡ true → contains (places_of left) p ≡ false → Rose start.seen now.seen p
  pub alone : start.about.alone ≡ true → LeftAlone start now all left

pub backing_start : (v : View) (all : List Frame) → v.hand.claims ≡ claims_of all → claimed_places v ≤ v.hand.allowance → Backing v v all all
backing_start v all e room = record {
  grows = grows_refl v.seen;
  hand = rw (← e) refl;
  room = room;
  means = means_refl v;
  refusals = refl;
  about = refl;
  inside = λ p h. h;
  rose = λ p h k. absurd (true≢false (sym h ∙ k));
  alone = λ _. record {
    rows = SameRows_refl v;
    drawn = refl;
    by_one = λ p h k. absurd (true≢false (sym h ∙ k));
    waiting = λ p h. refl;
    others = λ p h. refl;
  };
}

module _ (start now next : View) (all : List Frame) (f : Frame) (left : List Frame) (b : Backing start now all (f ∷ left)) (n : Newest now f left) where
  own_in : contains (places_of (f ∷ left)) f.place.0 ≡ true
  own_in = or_left (eqb f.place.0 f.place.0) _ (eq-eqb f.place.0 f.place.0 refl)

  not_own : (p : ℕ) → (p ≡ f.place.0 → ⊥) → contains (places_of left) p ≡ false → contains (places_of (f ∷ left)) p ≡ false
  not_own p ne k = rw (ne_eqb f.place.0 p (λ e. ne (sym e)), k) refl

  rose_left : GivenUp now next f.place.0 → (p : ℕ) → contains (places_of all) p ≡ true → contains (places_of left) p ≡ false → Rose start.seen next.seen p
  rose_left g p h k = ⊎_elim
      (λ same. subst (Rose start.seen next.seen) (sym same) (omega (arith, attempts_grow b.grows f.place.0, given_rose f.place.0 n.claimed g)))
      (λ ne. omega (arith, b.rose p h (not_own p ne k), attempts_grow g.grows p))
      (cases_eq p f.place.0)

  module _ (o : LeftAlone start now all (f ∷ left)) (g : Given now.seen next.seen f.place.0) where
    by_one_left : (p : ℕ) → contains (places_of all) p ≡ true → contains (places_of left) p ≡ false → RoseByOne start.seen next.seen p
    by_one_left p h k = ⊎_elim
        (λ same. subst (RoseByOne start.seen next.seen) (sym same) (g.by_one ∙ ap (λ m. min (m + 1) 65535) (o.waiting f.place.0 own_in)))
        (λ ne. g.others p ne ∙ o.by_one p h (not_own p ne k))
        (cases_eq p f.place.0)

    waiting_left : (p : ℕ) → contains (places_of left) p ≡ true → attempts_at next.seen p ≡ attempts_at start.seen p
    waiting_left p h = g.others p (λ same. true≢false (sym h ∙ (ap (contains (places_of left)) same ∙ n.other))) ∙ o.waiting p (or_right (eqb f.place.0 p) _ h)

    others_left : (p : ℕ) → contains (places_of all) p ≡ false → attempts_at next.seen p ≡ attempts_at start.seen p
    others_left p h = g.others p (λ same. true≢false (sym (b.inside f.place.0 own_in) ∙ (sym (ap (contains (places_of all)) same) ∙ h))) ∙ o.others p h

-- a claim that is given back leaves with the places of its steps
pub record Less (now next : View) (f : Frame) : Type 0 where
  pub means : KeepsMeans now next
  pub falls : claimed_places next + places_of_steps (recs now.seen) f.place.0 ≡ claimed_places now
  pub allowance : next.hand.allowance ≡ now.hand.allowance - places_of_steps (recs now.seen) f.place.0

pub less : {now next : View} (f : Frame) (left : List Frame) → IsLawfulView now → now.hand.claims ≡ claims_of (f ∷ left) → next.hand.claims ≡ claims_of left → claimed_places now ≤ now.hand.allowance → GivenUp now next f.place.0 → Less now next f
less {now} {next} f left law c c' room g =
    let a : next.hand.allowance ≡ now.hand.allowance - places_of_steps (recs now.seen) f.place.0 = ap (λ (h : Hand). h.allowance) g.hand in
    let k : next.hand.credits ≡ now.hand.credits = ap (λ (h : Hand). h.credits) g.hand in
    let all = claimed_frames now (f ∷ left) c ∙ places_cons (recs now.seen) f.place.0 (places_of left) in
    let kept = kept_left law c g in
    let after = claimed_frames next left c' in
    let falls : claimed_places next + places_of_steps (recs now.seen) f.place.0 ≡ claimed_places now = omega (arith, all, kept, after) in
    record { means = record { credits = omega (arith, k); allowance = omega (arith, a, falls, room) }; falls = falls; allowance = a }
  where
    kept_left : IsLawfulView now → now.hand.claims ≡ claims_of (f ∷ left) → GivenUp now next f.place.0 → places_for (recs next.seen) (places_of left) ≡ places_for (recs now.seen) (places_of left)
    kept_left law c g = places_grow g.grows left (and_parts (is_claim_well now.seen (fresh_claim f.place)) (list_all (is_claim_well now.seen) (claims_of left)) (well_frames (f ∷ left) law c)).1

-- the newest of the claims may be given back
pub newest_room : (v : View) (f : Frame) (left : List Frame) → v.hand.claims ≡ claims_of (f ∷ left) → claimed_places v ≤ v.hand.allowance → places_of_steps (recs v.seen) f.place.0 ≤ v.hand.allowance
newest_room v f left c room = omega (arith, room, claimed_frames v (f ∷ left) c, places_cons (recs v.seen) f.place.0 (places_of left))

pub backing_room : {start now : View} {all : List Frame} (f : Frame) (left : List Frame) → Backing start now all (f ∷ left) → places_of_steps (recs now.seen) f.place.0 ≤ now.hand.allowance
backing_room {start} {now} f left b = newest_room now f left (ap (λ (h : Hand). h.claims) b.hand) b.room

pub backing_next : {start now next : View} {all : List Frame} (f : Frame) (left : List Frame) → Backing start now all (f ∷ left) → IsLawfulView now → GivenUp now next f.place.0 → Backing start next all left
backing_next {start} {now} {next} {all} f left b law g =
    let c : now.hand.claims ≡ claims_of (f ∷ left) = ap (λ (h : Hand). h.claims) b.hand in
    let n = newest_of f left law c in
    let w = without-newest (claims_of (f ∷ left)) f left (claim_places-frames (f ∷ left)) refl n.other in
    let c' : next.hand.claims ≡ claims_of left = ap (λ (h : Hand). h.claims) g.hand ∙ rw c w in
    let back = less f left law c c' b.room g in
    record {
      grows = grows_trans b.grows g.grows;
      hand = g.hand ∙ rw (ap (λ (h : Hand). h.allowance) g.hand, b.hand) (ap (λ cs. record start.hand { claims = cs; allowance = now.hand.allowance - places_of_steps (recs now.seen) f.place.0 }) w);
      room = omega (arith, back.falls, back.allowance, b.room);
      means = means_trans b.means back.means;
      refusals = g.refusals ∙ b.refusals;
      about = g.about ∙ b.about;
      inside = λ p h. b.inside p (or_right (eqb f.place.0 p) _ h);
      rose = rose_left start now next all f left b n g;
      alone = λ alone. (let alone_now = ap (λ (t : About). t.alone) b.about ∙ alone in
          let o = b.alone alone in
          let k = g.alone alone_now in
          let given = given_one f.place.0 alone_now g in
          record {
            rows = SameRows_trans o.rows k.0;
            drawn = k.1 ∙ o.drawn;
            by_one = by_one_left start now next all f left b n o given;
            waiting = waiting_left start now next all f left b n o given;
            others = others_left start now next all f left b n o given;
          });
    }

pub backing_end : {start now : View} {all : List Frame} → IsLawfulView start → start.hand.claims ≡ claims_of all → Backing start now all [] → GivenBack start now (places_of all)
backing_end {start} {now} {all} law e b = record {
  grows = b.grows;
  hand = b.hand ∙ ap (λ n. record start.hand { claims = []; credits = n; allowance = now.hand.allowance }) (sym (ap (λ (h : Hand). h.credits) b.hand));
  refusals = b.refusals;
  means = b.means;
  about = b.about;
  once = once_of all law e;
  rose = λ p h. b.rose p h refl;
  no_more = λ alone. (let o = b.alone alone in record { rows = o.rows; by_one = λ p h. o.by_one p h refl; others = o.others });
  drawn = λ alone. (b.alone alone).drawn;
}

-- ---- what shows that claims were given back

-- a claim in hand is of a suspension
frame_claimed : (w : World) (fs : List Frame) → list_all (is_claim_well w) (claims_of fs) ≡ true → (p : ℕ) → contains (places_of fs) p ≡ true → is_claimed_at w p ≡ true
frame_claimed w [] h p k = absurd (true≢false (sym k))
frame_claimed w (f ∷ fs) h p k =
    let t = and_parts (is_claim_well w (fresh_claim f.place)) (list_all (is_claim_well w) (claims_of fs)) h in
    ⊎_elim
    (λ same. subst (λ q. is_claimed_at w q ≡ true) (eqb-true f.place.0 p same) (and_parts (is_claimed_at w f.place.0) _ t.0).0)
    (λ later. frame_claimed w fs t.1 p later)
    (or_cases (eqb f.place.0 p) (contains (places_of fs) p) k)

-- once it was given back, its count is above 0
pub given_shown : {old new : View} (fs : List Frame) → IsLawfulView old → old.hand.claims ≡ claims_of fs → GivenBack old new (places_of fs) → (p : ℕ) → contains (places_of fs) p ≡ true → IsGivenBack new.seen p
given_shown {old} {new} fs law e b p h =
    let claimed = frame_claimed old.seen fs (well_frames fs law e) p h in
    let r = claimed_there old.seen p claimed in
    record { rec = r.0; here = b.grows.records p r.0 r.1; pending = claimed_pending old.seen law.world p claimed r.0 r.1; some = omega (arith, b.rose p h) }
