-- How a force begins and ends.
use Rattle.std.proofs.Common.{◌≡◌, ℕ, arith, Bool, true, not, ◌&&◌, ◌||◌, [], ◌∷◌, Option, Some, None, refl, sym, ap, ◌∙◌}
use Rattle.std.specs.Prelude.{Result, Ok, Err, IfErr, OnOk, OnErr}
use Rattle.std.proofs.lemmas.Bool.{and_from, and_parts}
use Rattle.lazy_rec.specs.declared.places.Ref.{Ref}
use Rattle.lazy_rec.specs.declared.records.Rec.{Rec}
use Rattle.lazy_rec.specs.Named.{is_pending}
use Rattle.heap_store.specs.World.{World, recs, done_at, is_claimed_at, is_published}
use Rattle.heap_store.specs.Budget.{is_funded, is_funded_at}
use Rattle.heap_store.specs.Hand.{Hand}
use Rattle.heap_store.specs.View.{View, IsLawfulView, Quiet, IsWon}
use Rattle.heap_store.specs.Jobs.{IsWork}
use Rattle.heap_store.proofs.GrowthLaws.{grows_trans, done_grows}
use Rattle.force_engine.specs.declared.stack.Frame.{Frame}
use Rattle.force_engine.specs.declared.solo.GiveUp.{GiveUp}
use Rattle.force_engine.specs.Stacked.{claims_of, claimed_places, IsStacked, KeepsMeans, Passed}
use Rattle.force_engine.specs.Forced.{IsForcible, IsUndone, Forced, IsGivenUp}
use Rattle.force_engine.proofs.Giving.{newest_of}
use Rattle.force_engine.proofs.Means.{claimed_not_done, claimed_frames, idle_allowance, means_trans}
use Rattle.heap_store.proofs.Steps.{alone_of}
use Rattle.force_engine.proofs.Turns.{Opened, opened, Passed_trans, gave_up_later}

forcible_parts : (does : Rec → Bool) (w : World) (s : ℕ) (r : Rec) → IsForcible does w s → recs w s ≡ Some r → is_pending r ≡ true → (does r ≡ true) × (is_funded w s r ≡ true)
forcible_parts does w s r h e p =
    let k : not (is_pending r) || (does r && is_funded w s r) ≡ true = rw e at h in
    let d : does r && is_funded w s r ≡ true = rw p at k in
    and_parts (does r) (is_funded w s r) d

pub forcible_work : (does : Rec → Bool) (w : World) (s : ℕ) (r : Rec) → IsForcible does w s → recs w s ≡ Some r → is_pending r ≡ true → IsWork does w s
forcible_work does w s r h e p = rw e (and_from (is_pending r) (does r) p (forcible_parts does w s r h e p).0)

pub forcible_funded : (does : Rec → Bool) (w : World) (s : ℕ) (r : Rec) → IsForcible does w s → recs w s ≡ Some r → is_pending r ≡ true → is_funded_at w s ≡ true
forcible_funded does w s r h e p = rw e (forcible_parts does w s r h e p).1

-- a claim was won after a read
module _ (v w x : View) (s : Ref) (alone : v.about.alone ≡ true) (idle : v.hand.claims ≡ []) (q : Quiet v w) (won : IsWon w x s) where
  none : IsStacked w []
  none =
      let e : w.hand.claims ≡ [] = ap (λ (h : Hand). h.claims) q.hand ∙ idle in
      let no_places : claimed_places w ≡ 0 = claimed_frames w [] e in
      record { alone = alone_of v w q.about alone; claims = e; rises = tt; room = omega (arith, no_places) }

  -- the first claim
  pub first_claim : IsLawfulView w → is_published (recs w.seen) s.0 ≡ true → (f : Frame) → f.place ≡ s → Opened w x (f ∷ [])
  first_claim law there f same = opened f law none (rw same there) tt (rw same won)

  pub begun : IsLawfulView w → is_published (recs w.seen) s.0 ≡ true → (f : Frame) → f.place ≡ s → Passed v x
  begun law there f same =
      let e = q.alone alone in
      rw e at (first_claim law there f same).passed

  -- it was not done before
  pub undone : (r : Rec) → IsLawfulView x → recs v.seen s.0 ≡ Some r → is_pending r ≡ true → (f : Frame) → f.place ≡ s → IsUndone v.seen s.0
  undone r law e p f same = record {
    pending = rw e p;
    not_done = go (done_at v.seen s.0) refl;
  }
    where
      claims : x.hand.claims ≡ claims_of (f ∷ [])
      claims = rw (won.hand, q.hand, idle, same) refl

      claimed : is_claimed_at x.seen s.0 ≡ true
      claimed = rw same at (newest_of f [] law claims).claimed

      go : (o : Option (ℕ × ℕ)) → done_at v.seen s.0 ≡ o → o ≡ None
      go None k = refl
      go (Some d) k = absurd (let later = done_grows (grows_trans q.grows won.grows) s.0 d k in let none = claimed_not_done x.seen s.0 claimed in cc)

pub forced : {v x : View} (y : View) (r : Result Ref GiveUp) → v.hand.claims ≡ [] → Passed v x → OnOk r (Passed x y) → OnOk r (y.hand.claims ≡ []) → OnOk r (Forced v y)
forced {v} {x} y (Ok place) idle p q i =
    let k = Passed_trans p q in
    record {
      grows = k.grows;
      hand = k.hand;
      refusals = k.refusals;
      about = k.about;
      rows = λ _. k.rows;
      attempts = λ _. k.attempts;
      claims = i ∙ sym idle;
      credits = k.means.credits;
      allowance = idle_allowance idle k.means;
    }
forced y (Err cause) idle p q i = tt

pub kept_means : {v x : View} (y : View) (s : ℕ) (r : Result Ref GiveUp) → Passed v x → OnOk r (Passed x y) → IfErr r (λ cause. IsGivenUp x y s cause) → KeepsMeans v y
kept_means y s (Ok place) p q g = means_trans p.means q.means
kept_means y s (Err cause) p q g = means_trans p.means g.gave_up.means

pub on_err : {P : Type 0} (r : Result Ref GiveUp) → P → OnErr r P
on_err (Ok place) p = tt
on_err (Err cause) p = p

pub given_up_later : {v x : View} (y : View) (s : ℕ) (r : Result Ref GiveUp) → Passed v x → IfErr r (λ cause. IsGivenUp x y s cause) → IfErr r (λ cause. IsGivenUp v y s cause)
given_up_later y s (Ok place) p g = tt
given_up_later y s (Err cause) p g = record { given = g.given; own = g.own; gave_up = gave_up_later p cause g.gave_up }
