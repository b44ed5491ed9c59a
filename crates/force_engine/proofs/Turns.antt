-- The turns of a force: a need is claimed, or the newest claim is completed.
use Rattle.std.proofs.Common.{subst, ◌≡◌, ℕ, suc, ◌+◌, ◌<◌, ◌≤◌, Bool, true, false, ◌||◌, List, [], ◌∷◌, length, None, refl, sym, ap, ◌∙◌, arith, ◌⊎◌, inl, inr}
use Rattle.std.specs.Prelude.{eqb, min}
use Rattle.std.proofs.lemmas.List.{length-map}
use Rattle.std.proofs.lemmas.Bool.{true≢false, eqb-true, eq-eqb, or_left}
use Rattle.lazy_rec.specs.declared.places.Ref.{Ref}
use Rattle.heap_store.specs.declared.claims.Claim.{Claim}
use Rattle.heap_store.specs.declared.claims.Claim.TheVariants as answers
use Rattle.heap_store.specs.declared.claims.Full.{Full}
use Rattle.heap_store.specs.World.{World, recs, done_at, is_published, is_claimed_at, attempts_at, SameAttempts}
use Rattle.heap_store.specs.Hand.{Hand, hand_refused, contains, claim_places, fresh_claim, places_of_steps}
use Rattle.heap_store.specs.View.{View, About, IsLawfulView, IsWon, IsFoundDone, IsFoundClaimed, ClaimAnswer, Refused}
use Rattle.heap_store.specs.Lawful.{height}
use Rattle.heap_store.specs.Jobs.{Readiness, IsReady, most_places}
use Rattle.heap_store.proofs.ShowLaws.{one_value}
use Rattle.lazy_rec.specs.declared.states.SuspState.TheVariants as states
use Rattle.heap_store.proofs.AttemptLaws.{attempts_grow, changed_attempts}
use Rattle.heap_store.proofs.RoomLaws.{refused_within, same_room}
use Rattle.heap_store.proofs.GrowthLaws.{at_true, grows_refl, grows_trans}
use Rattle.heap_store.proofs.Steps.{SameRows_refl, SameRows_trans, alone_of}
use Rattle.force_engine.specs.declared.stack.Frame.{Frame}
use Rattle.force_engine.specs.declared.solo.GiveUp.TheVariants as causes
use Rattle.force_engine.specs.Stacked.{claims_of, places_of, claimed_places, KeepsMeans, hand_with, IsBelow, HeightsRise, IsStacked, Passed, work}
use Rattle.force_engine.specs.Forced.{RoseByOne, NoMoreGiven, hand_idle, GivenBack, CauseIs, GaveUp}
use Rattle.force_engine.specs.declared.solo.GiveUp.{GiveUp}
use Rattle.force_engine.proofs.Giving.{given_shown}
use Rattle.heap_store.proofs.CauseLaws.{wanted_at, many_given_back}
use Rattle.force_engine.proofs.Growing.{HeightsRise-grows}
use Rattle.force_engine.proofs.Means.{places_cons, claim_places-frames, claimed_frames, claimed_later, steps_grow, means_refl, means_trans}

-- ---- passing on

pub Passed_refl : (v : View) → Passed v v
Passed_refl v = record { grows = grows_refl v.seen; hand = refl; means = means_refl v; refusals = refl; about = refl; rows = SameRows_refl v; attempts = λ z. refl }

pub Passed_trans : {a b c : View} → Passed a b → Passed b c → Passed a c
Passed_trans {a} {b} {c} p q = record {
  grows = grows_trans p.grows q.grows;
  hand = q.hand ∙ ap (λ (h : Hand). hand_with h c.hand) p.hand;
  means = means_trans p.means q.means;
  refusals = q.refusals ∙ p.refusals;
  about = q.about ∙ p.about;
  rows = SameRows_trans p.rows q.rows;
  attempts = λ z. q.attempts z ∙ p.attempts z;
}

-- ---- a need is claimed

below_trans : (w : World) (t p : ℕ) (fs : List Frame) → height (recs w) t < height (recs w) p → IsBelow w p fs → IsBelow w t fs
below_trans w t p [] h k = tt
below_trans w t p (f ∷ fs) h k = omega arith

-- a place of a lower height than all of these is none of them
not_among : (w : World) (t : ℕ) (fs : List Frame) → HeightsRise w fs → IsBelow w t fs → contains (places_of fs) t ≡ false
not_among w t [] r b = refl
not_among w t (f ∷ fs) r b =
    let ih = not_among w t fs r.2 (below_trans w t f.place.0 fs b r.1) in
    rw ih (other (eqb f.place.0 t) refl)
  where
    other : (e : Bool) → eqb f.place.0 t ≡ e → e || false ≡ false
    other true e = let same = eqb-true f.place.0 t e in let b' : height (recs w) t < height (recs w) f.place.0 = b in absurd (let k = rw same at b' in omega arith)
    other false e = refl

pub record Opened (old new : View) (frames : List Frame) : Type 0 where
  pub stacked : IsStacked new frames
  pub passed : Passed old new
  pub falls : work new < work old

pub opened : {old new : View} {frames : List Frame} (need : Frame) → IsLawfulView old → IsStacked old frames → is_published (recs old.seen) need.place.0 ≡ true → IsBelow old.seen need.place.0 frames → IsWon old new need.place → Opened old new (need ∷ frames)
opened {old} {new} {frames} need law s h b w =
    let c : new.hand.claims ≡ fresh_claim need.place ∷ old.hand.claims = ap (λ (x : Hand). x.claims) w.hand in
    let m = w.alone s.alone in
    let l : length new.hand.claims ≡ suc (length old.hand.claims) = ap length c in
    let n : new.about.capacity ≡ old.about.capacity = ap (λ (x : About). x.capacity) w.about in
    let d = m.1 in
    let r = at_true (λ _. true) (recs old.seen need.place.0) h in
    let same = steps_grow w.grows need.place.0 r.0 r.1 in
    let a : new.hand.allowance ≡ old.hand.allowance + places_of_steps (recs old.seen) need.place.0 = ap (λ (x : Hand). x.allowance) w.hand in
    let k : new.hand.credits ≡ old.hand.credits = ap (λ (x : Hand). x.credits) w.hand in
    let claims : new.hand.claims ≡ claims_of (need ∷ frames) = c ∙ ap (λ cs. fresh_claim need.place ∷ cs) s.claims in
    let more : claimed_places new ≡ places_of_steps (recs old.seen) need.place.0 + claimed_places old = omega (arith, same, claimed_frames new (need ∷ frames) claims, places_cons (recs new.seen) need.place.0 (places_of frames), claimed_later new frames law s.claims w.grows) in
    record {
      stacked = record {
        alone = alone_of old new w.about s.alone;
        claims = claims;
        room = omega (arith, more, a, s.room);
        rises = HeightsRise-grows law.world w.grows (need ∷ frames) (h, b, s.rises);
      };
      passed = record { grows = w.grows; hand = rw w.hand refl; means = record { credits = omega (arith, k); allowance = omega (arith, more, a) }; refusals = w.refusals; about = w.about; rows = m.0; attempts = (let t = w.shown s.alone in subst (SameAttempts old.seen) (sym t.3) (changed_attempts old.seen need.place.0 t.0 (states.Claimed t.1) (states.Unforced t.1) t.2 refl)) };
      falls = rw (n, d, l) (omega (arith, m.2));
    }

not_found_done : {old new : View} {t place : ℕ} → old.about.alone ≡ true → done_at old.seen t ≡ None → IsFoundDone old new t place → ⊥
not_found_done {old} {new} {t} alone n f =
    let e = f.quiet.alone alone in
    let k = f.done in
    let d = rw e at k in
    absurd (cc)

not_found_claimed : {old new : View} {frames : List Frame} (t : ℕ) → IsStacked old frames → IsBelow old.seen t frames → IsLawfulView old → IsFoundClaimed old new t → ⊥
not_found_claimed {old} {new} {frames} t s b law f =
    let e = f.quiet.alone s.alone in
    let k = f.claimed in
    let claimed : is_claimed_at old.seen t ≡ true = rw e at k in
    let m : contains (claim_places old.hand.claims) t ≡ true = law.claimed s.alone t claimed in
    let m' : contains (claim_places (claims_of frames)) t ≡ true = rw s.claims at m in
    let n = not_among old.seen t frames s.rises b in
    true≢false (sym m' ∙ ap (λ xs. contains xs t) (claim_places-frames frames) ∙ n)

pub no_other_answer : {old : View} (new : View) {frames : List Frame} (t : Ref) (answer : Claim) → IsStacked old frames → IsBelow old.seen t.0 frames → done_at old.seen t.0 ≡ None → IsLawfulView old → ClaimAnswer old new t answer → ((x : Ref) × (answer ≡ answers.Done x)) ⊎ (answer ≡ answers.Busy) → ⊥
no_other_answer {old} new t answer s b n law a (inl (place, e)) = let f : IsFoundDone old new t.0 place.0 = (rw e at a) in not_found_done s.alone n f
no_other_answer {old} new t answer s b n law a (inr e) = let f : IsFoundClaimed old new t.0 = (rw e at a) in not_found_claimed t.0 s b law f

-- ---- giving up

pub wanted_memory : {old new : View} (frames : List Frame) → IsLawfulView old → old.hand.claims ≡ claims_of frames → 64 ≤ length frames → GivenBack old new (places_of frames) → GaveUp old new (places_of frames) causes.NoMemory
wanted_memory {old} {new} frames law claims many b =
    let held : 64 ≤ length (places_of frames) = rw length-map many in
    record {
      grows = b.grows;
      about = b.about;
      means = b.means;
      once = b.once;
      rose = b.rose;
      no_more = b.no_more;
      cause_is = record { hand = b.hand; refusals = b.refusals; held = held; shown = omega (arith, held, many_given_back new.seen (places_of frames) b.once (given_shown frames law claims b)) };
    }

-- a refusal changes neither
pub refused_means : {old mid : View} {k : ℕ} {full : Full} (newest : Frame) (frames : List Frame) → IsLawfulView old → IsStacked old (newest ∷ frames) → Refused old mid k full → KeepsMeans old mid
refused_means {old} {mid} newest frames law s f =
    let c : mid.hand.claims ≡ claims_of (newest ∷ frames) = ap (λ (x : Hand). x.claims) f.hand ∙ s.claims in
    let same : claimed_places mid ≡ claimed_places old = claimed_frames mid (newest ∷ frames) c ∙ claimed_later mid (newest ∷ frames) law s.claims f.grows in
    let a : mid.hand.allowance ≡ old.hand.allowance = ap (λ (x : Hand). x.allowance) f.hand in
    let k : mid.hand.credits ≡ old.hand.credits = ap (λ (x : Hand). x.credits) f.hand in
    record { credits = omega (arith, k); allowance = omega (arith, same, a) }

-- the claims may still be given back after a refusal
pub refused_room : {old mid : View} {k : ℕ} {full : Full} (newest : Frame) (frames : List Frame) → IsLawfulView old → IsStacked old (newest ∷ frames) → Refused old mid k full → claimed_places mid ≤ mid.hand.allowance
refused_room newest frames law s f = omega (arith, s.room, (refused_means newest frames law s f).allowance)

pub was_refused : {told : Readiness} {old mid new : View} {k : ℕ} {full : Full} (newest : Frame) (frames : List Frame) → IsLawfulView old → IsLawfulView mid → IsStacked old (newest ∷ frames) → IsReady told old.seen newest.place.0 k → k ≤ old.hand.allowance → Refused old mid k full → GivenBack mid new (places_of (newest ∷ frames)) → GaveUp old new (places_of (newest ∷ frames)) (causes.Full full)
was_refused {told} {old} {mid} {new} {k} {full} newest frames law law' s ready few f b =
    let claims : mid.hand.claims ≡ claims_of (newest ∷ frames) = ap (λ (h : Hand). h.claims) f.hand ∙ s.claims in
    let own : contains (places_of (newest ∷ frames)) newest.place.0 ≡ true = or_left (eqb newest.place.0 newest.place.0) _ (eq-eqb newest.place.0 newest.place.0 refl) in
    let shown = given_shown (newest ∷ frames) law' claims b newest.place.0 own in
    let here = b.grows.records newest.place.0 ready.rec (f.grows.records newest.place.0 ready.rec ready.here) in
    let same : ready.rec ≡ shown.rec = one_value ready.rec shown.rec (sym here ∙ shown.here) in
    let most : full.wanted ≤ most_places shown.rec = rw (← same) (omega (arith, f.wanted, ready.most)) in
    let means = means_trans (refused_means newest frames law s f) b.means in
    record {
      grows = grows_trans f.grows b.grows;
      about = b.about ∙ f.about;
      means = means;
      once = b.once;
      rose = λ p h. omega (arith, b.rose p h, attempts_grow f.grows p);
      no_more = λ alone. (let m = f.alone alone in
          let n = b.no_more (alone_of old mid f.about alone) in
          record {
            rows = SameRows_trans (record { rows = ap (λ (w : World). w.rows) m.0; named = m.2 }) n.rows;
            by_one = λ p h. subst (λ w. RoseByOne w new.seen p) m.0 (n.by_one p h);
            others = λ p h. n.others p h ∙ ap (λ w. attempts_at w p) m.0;
          });
      cause_is = record {
        hand = b.hand ∙ ap (λ (h : Hand). hand_idle h new.hand) f.hand ∙ ap (λ v. record (hand_idle (hand_refused old.hand) new.hand) { vain = v }) (sym (ap (λ (h : Hand). h.vain) b.hand));
        refusals = b.refusals ∙ f.refusals;
        low = f.low;
        asked = omega (arith, f.asked, f.wanted);
        wanted_by = or_left _ _ (wanted_at new.seen full.wanted newest.place.0 shown most);
        no_room = omega (arith, f.no_room, f.wanted);
        drawn = λ alone. (let m = f.alone alone in m.3 ∙ sym m.1 ∙ sym (b.drawn (alone_of old mid f.about alone)));
        within = λ alone. (let m = f.alone alone in
            let n = b.no_more (alone_of old mid f.about alone) in
            omega (arith, refused_within old law alone k few, m.3, f.wanted, same_room old.seen new.seen (n.rows.rows ∙ ap (λ (w : World). w.rows) m.0)));
      };
    }

-- a force that gave up after what it passed
passed_no_more : {a b c : View} {given : List ℕ} → Passed a b → NoMoreGiven b c given → NoMoreGiven a c given
passed_no_more {a} {b} {c} p n = record {
  rows = SameRows_trans p.rows n.rows;
  by_one = λ q h. n.by_one q h ∙ ap (λ m. min (m + 1) 65535) (p.attempts q);
  others = λ q h. n.others q h ∙ p.attempts q;
}

cause_later : {a b : View} (c : View) (given : List ℕ) → Passed a b → (cause : GiveUp) → CauseIs b c given cause → CauseIs a c given cause
cause_later {a} {b} c given p (causes.Full full) w = record {
  hand = w.hand ∙ rw p.hand refl;
  refusals = rw (← p.refusals) w.refusals;
  low = w.low;
  asked = w.asked;
  wanted_by = w.wanted_by;
  no_room = rw (← ap (λ (t : About). t.capacity) p.about) w.no_room;
  drawn = λ alone. w.drawn (alone_of a b p.about alone);
  within = λ alone. w.within (alone_of a b p.about alone);
}
cause_later {a} {b} c given p causes.NoMemory w = record { hand = w.hand ∙ rw p.hand refl; refusals = w.refusals ∙ p.refusals; held = w.held; shown = w.shown }

pub gave_up_later : {a b c : View} {given : List ℕ} → Passed a b → (cause : GiveUp) → GaveUp b c given cause → GaveUp a c given cause
gave_up_later {a} {b} {c} {given} p cause g = record {
  grows = grows_trans p.grows g.grows;
  about = g.about ∙ p.about;
  means = means_trans p.means g.means;
  once = g.once;
  rose = λ q h. omega (arith, g.rose q h, attempts_grow p.grows q);
  no_more = λ alone. passed_no_more p (g.no_more (alone_of a b p.about alone));
  cause_is = cause_later c given p cause g.cause_is;
}
