-- The work of one event, turn by turn.
use Rattle.std.proofs.Common.{◌≡◌, ℕ, zero, suc, ◌+◌, ◌-◌, ◌<◌, ◌≤◌, refl, sym, ap, subst, ◌∙◌, arith, leb, Bool, true, false, ◌||◌, List, [], ◌∷◌, ◌++◌, ◌⊎◌, inl, inr, ⊎_elim, Option, Some, None, slice_index_or, Result, Ok, Err}
use Rattle.std.specs.Prelude.{is_some, IfErr}
use Rattle.std.proofs.lemmas.Bool.{true≢false, and_parts, and_from, or_left, or_right, le-leb, leb-true}
use Rattle.lazy_rec.specs.declared.places.Ref.{Ref}
use Rattle.lazy_rec.specs.declared.records.Rec.{Rec}
use Rattle.lazy_rec.specs.declared.events.Kind.{Kind}
use Rattle.lazy_rec.specs.declared.events.Op.{Op}
use Rattle.lazy_rec.specs.Named.{is_pending}
use Rattle.heap_store.specs.declared.claims.HeldClaim.{HeldClaim}
use Rattle.heap_store.specs.declared.claims.Full.{Full}
use Rattle.heap_store.specs.declared.jobs.Cursor.{Cursor}
use Rattle.heap_store.specs.declared.jobs.EventJob.{EventJob}
use Rattle.heap_store.specs.Span.{Span}
use Rattle.heap_store.specs.World.{World, recs, holds, some_record}
use Rattle.heap_store.specs.Rows.{words_at}
use Rattle.heap_store.specs.Lawful.{IsLawful}
use Rattle.heap_store.specs.Hand.{Hand, KeepsWords, claim_places, places_from, without, hand_refused}
use Rattle.heap_store.specs.Budget.{is_funded, is_funded_at}
use Rattle.heap_store.specs.Stages.{StageName, at_start, at_heap_paid, at_parts, at_root, name_of, position, stage_due, stage_places, due_now, places_now, direct_of}
use Rattle.heap_store.specs.Causes.{IsFullCause, may_have_wanted}
use Rattle.heap_store.specs.View.{View, About, Refusals, SameRows, IsLawfulView, Quiet, Reserved, Refused}
use Rattle.heap_store.specs.Jobs.{IsWork, IsJob, IsEventNeed, IsEnd, IsNextStage, IsEventBuildable, Filled}
use Rattle.heap_store.proofs.CauseLaws.{wanted_among}
use Rattle.heap_store.proofs.GrowthLaws.{at_true, grows_refl, grows_trans}
use Rattle.heap_store.proofs.RoomLaws.{refused_within}
use Rattle.heap_store.proofs.StageLaws.{left_step, own_due, own_places, places_direct}
use Rattle.heap_store.proofs.Steps.{words_trans, alone_of, SameRows_refl, SameRows_trans, reserved_held}
use Rattle.force_engine.specs.declared.solo.GiveUp.{GiveUp}
use Rattle.force_engine.specs.declared.solo.GiveUp.TheVariants as causes
use Rattle.force_engine.specs.Forced.{IsForcible, IsKept, Forced, IsGivenUp, hand_idle}
use Rattle.force_engine.proofs.Finish.{without-fresh}
use Rattle.kind_table.specs.Kinds.{IsReadyEvent}
use Rattle.version_book.specs.declared.event_work.Outcome.{Outcome}
use Rattle.version_book.specs.Works.{hand_spent, Worked, Balked, Stopped, ForcedOn, HasMeans, MadeOutcome, turns_left}
use Rattle.version_book.proofs.DoneCount.{forced_most, forced_rises, forced_more}
use Rattle.version_book.proofs.JobLaws.{job_grows, next_job, end_of_first}

-- ---- what composes

pub worked_refl : (v : View) → Worked v v
worked_refl v = record { grows = grows_refl v.seen; words = λ i h. refl; hand = refl; refusals = refl; about = refl; rows = λ _. SameRows_refl v }

pub worked_names : {a b : View} → Worked a b → b.hand.names ≡ a.hand.names
worked_names w = ap (λ (h : Hand). h.names) w.hand

pub worked_claims : {a b : View} → Worked a b → b.hand.claims ≡ a.hand.claims
worked_claims w = ap (λ (h : Hand). h.claims) w.hand

pub worked_trans : {a b c : View} → Worked a b → Worked b c → Worked a c
worked_trans {a} {b} {c} f g = record {
  grows = grows_trans f.grows g.grows;
  words = words_trans a.hand b.hand a.seen b.seen c.seen (worked_names f) f.words g.words;
  hand = g.hand ∙ ap (λ (h : Hand). hand_spent h c.hand) f.hand;
  refusals = g.refusals ∙ f.refusals;
  about = g.about ∙ f.about;
  rows = λ alone. SameRows_trans (f.rows alone) (g.rows (alone_of a b f.about alone));
}

pub quiet_worked : {a b : View} → Quiet a b → Worked a b
quiet_worked {a} {b} q = record {
  grows = q.grows;
  words = q.words;
  hand = q.hand ∙ ap (λ (h : Hand). hand_spent a.hand h) (sym q.hand);
  refusals = q.refusals;
  about = q.about;
  rows = λ alone. (let same = q.alone alone in record { rows = ap (λ (v : View). v.seen.rows) same; named = ap (λ (v : View). v.named) same });
}

vain_of : (a b c : View) (refusal : Full) → b.hand.vain ≡ a.hand.vain → (c.hand.vain ≡ b.hand.vain) ⊎ (c.hand.vain ≡ Some refusal) → (c.hand.vain ≡ a.hand.vain) ⊎ (c.hand.vain ≡ Some refusal)
vain_of a b c refusal same h = ⊎_elim (λ e. inl (e ∙ same)) (λ e. inr e) h

-- a refusal on the way
pub worked_balked : {a b c : View} {most : ℕ} {refusal : Full} → Worked a b → Balked b c most refusal → Balked a c most refusal
worked_balked {a} {b} {c} {most} {refusal} f g = record {
  grows = grows_trans f.grows g.grows;
  words = words_trans a.hand b.hand a.seen b.seen c.seen (worked_names f) f.words g.words;
  hand = g.hand ∙ ap {A = Hand} {B = Hand} (λ h. record (hand_spent (hand_refused h) c.hand) { vain = c.hand.vain }) f.hand;
  vain = vain_of a b c refusal (ap (λ (h : Hand). h.vain) f.hand) g.vain;
  last = g.last;
  about = g.about ∙ f.about;
  low = g.low;
  no_room = g.no_room;
  cause = g.cause;
  rows = λ alone. SameRows_trans (f.rows alone) (g.rows (alone_of a b f.about alone));
  drawn = λ alone. g.drawn (alone_of a b f.about alone);
  within = λ alone. g.within (alone_of a b f.about alone);
}

pub stopped_on : (a b c : View) (most : ℕ) (cause : GiveUp) → Worked a b → Stopped b c most cause → Stopped a c most cause
stopped_on a b c most (causes.Full refusal) f g = worked_balked f g
stopped_on a b c most causes.NoMemory f g = record { worked = worked_trans f g.worked; cause = g.cause }

-- a force's refusal is one of the event's, whatever that may take itself
more_cause : {w : World} {wanted : ℕ} (most : ℕ) → IsFullCause w 0 wanted → IsFullCause w most wanted
more_cause {w} {wanted} most h = record { asked = h.asked; wanted_by = by (leb wanted 0) refl h.wanted_by }
  where
    by : (b : Bool) → leb wanted 0 ≡ b → b || some_record w (may_have_wanted w wanted) ≡ true → leb wanted most || some_record w (may_have_wanted w wanted) ≡ true
    by true e k = absurd (let z = leb-true wanted 0 e in omega (arith, z, h.asked))
    by false e k = or_right (leb wanted most) _ k

pub stopped_more : (a b : View) (most : ℕ) (cause : GiveUp) → Stopped a b 0 cause → Stopped a b most cause
stopped_more a b most (causes.Full refusal) g = record {
  grows = g.grows;
  words = g.words;
  hand = g.hand;
  vain = g.vain;
  last = g.last;
  about = g.about;
  low = g.low;
  no_room = g.no_room;
  cause = more_cause most g.cause;
  rows = g.rows;
  drawn = g.drawn;
  within = g.within;
}
stopped_more a b most causes.NoMemory g = g

-- ---- forces on a heap that no other works on

pub words_same : (a b : World) → b.rows ≡ a.rows → (i : ℕ) → words_at b i ≡ words_at a i
words_same a b e zero = refl
words_same a b e (suc i) = ap (λ (rows : List (List ℕ)). slice_index_or rows i []) e

same_words : {a b : View} → SameRows a b → KeepsWords a.hand a.seen b.seen
same_words {a} {b} same i h = words_same a.seen b.seen same.rows i

idle_same : (h now : Hand) → h.claims ≡ [] → hand_idle h now ≡ hand_spent h now
idle_same h now e = rw (← e) refl

forced_worked : {a b : View} → a.about.alone ≡ true → Forced a b → Worked a b
forced_worked {a} {b} alone f = record {
  grows = f.grows;
  words = same_words (f.rows alone);
  hand = f.hand ∙ ap (λ cs. record a.hand { claims = cs; credits = b.hand.credits; allowance = b.hand.allowance }) f.claims;
  refusals = f.refusals;
  about = f.about;
  rows = f.rows;
}

pub forced_on : {a b : View} {s place : ℕ} → a.about.alone ≡ true → Forced a b → (holds (recs a.seen) s is_pending ≡ true → IsKept b.seen s place) → ForcedOn a b s place
forced_on alone f kept = record {
  worked = forced_worked alone f;
  credits = f.credits;
  allowance = f.allowance;
  done = λ pending. (let k = kept pending in (k.steps, k.done));
}

no_vain : (o : Option Full) → is_some o ≡ false → o ≡ None
no_vain None e = refl
no_vain (Some f) e = absurd (true≢false e)

given_stopped : {a b : View} {s : ℕ} (cause : GiveUp) → a.about.alone ≡ true → a.hand.claims ≡ [] → IsLawfulView a → IsLawfulView b → IsGivenUp a b s cause → Stopped a b 0 cause
given_stopped {a} {b} (causes.Full refusal) alone none law law' g =
    let c = g.gave_up.cause_is in
    record {
      grows = g.gave_up.grows;
      words = same_words (g.gave_up.no_more alone).rows;
      hand = c.hand ∙ ap {A = Hand} {B = Hand} (λ h. record h { vain = b.hand.vain }) (idle_same (hand_refused a.hand) b.hand none);
      vain = inl (no_vain b.hand.vain (law'.vain (alone_of a b g.gave_up.about alone)) ∙ sym (no_vain a.hand.vain (law.vain alone)));
      last = ap (λ (r : Refusals). r.last) c.refusals;
      about = g.gave_up.about;
      low = c.low;
      no_room = rw g.gave_up.about c.no_room;
      cause = record { asked = c.asked; wanted_by = or_right (leb refusal.wanted 0) _ (wanted_among b.seen refusal.wanted g.given c.wanted_by) };
      rows = λ z. (g.gave_up.no_more z).rows;
      drawn = c.drawn;
      within = c.within;
    }
given_stopped {a} {b} causes.NoMemory alone none law law' g =
    let c = g.gave_up.cause_is in
    record {
      worked = record {
        grows = g.gave_up.grows;
        words = same_words (g.gave_up.no_more alone).rows;
        hand = c.hand ∙ idle_same a.hand b.hand none;
        refusals = c.refusals;
        about = g.gave_up.about;
        rows = λ z. (g.gave_up.no_more z).rows;
      };
      cause = c.shown;
    }

-- what a need of an event may be forced by
pub forcible : (does : Rec → Bool) (w : World) (t : ℕ) → IsWork does w t → is_funded_at w t ≡ true → IsForcible does w t
forcible does w t h funded =
    let k = at_true _ (recs w t) h in
    let p = and_parts (is_pending k.0) (does k.0) k.2 in
    let e = k.1 in
    let f : is_funded w t k.0 ≡ true = rw e at funded in
    rw e (or_right _ _ (and_from (does k.0) (is_funded w t k.0) p.1 f))

-- ---- reserves

-- a reserve of the event's own is refused
pub refused_balked : {a b : View} {k : ℕ} {refusal : Full} (most : ℕ) → IsLawfulView b → k ≤ a.hand.allowance → k ≤ most → Refused a b k refusal → Balked a b most refusal
refused_balked {a} {b} {k} {refusal} most law few own r = record {
  grows = r.grows;
  words = r.words;
  hand = r.hand ∙ spent (hand_refused a.hand) b.hand.vain b.hand (ap (λ (h : Hand). h.credits) r.hand) (ap (λ (h : Hand). h.allowance) r.hand);
  vain = ⊎_elim (λ e. inl e) (λ (p : (a.hand.vain ≡ None) × (b.hand.vain ≡ Some refusal)). inr p.1) r.vain;
  last = ap (λ (x : Refusals). x.last) r.refusals;
  about = r.about;
  low = r.low;
  no_room = rw r.about (omega (arith, r.no_room, r.wanted));
  cause = record { asked = omega (arith, r.asked, r.wanted); wanted_by = or_left _ _ (le-leb refusal.wanted most (omega (arith, r.wanted, own))) };
  rows = λ alone. (let same = r.alone alone in record { rows = ap (λ (w : World). w.rows) same.0; named = same.2 });
  drawn = λ alone. (let same = r.alone alone in same.3 ∙ sym same.1);
  within = λ alone. (let same = r.alone alone in omega (arith, refused_within b law (alone_of a b r.about alone) k (rw r.hand few), same.1, same.3, r.wanted));
}
  where
    spent : (h : Hand) (vain : Option Full) (now : Hand) → now.credits ≡ h.credits → now.allowance ≡ h.allowance → record h { vain = vain } ≡ record (hand_spent h now) { vain = vain }
    spent h vain now e f = rw (e, f) refl

no_claims : (cs : List HeldClaim) → claim_places cs ≡ [] → cs ≡ []
no_claims [] e = refl
no_claims (c ∷ cs) e = cc

-- hands that agree but for the credits and the places that may still be reserved
hand_back : (a c : Hand) → c.claims ≡ a.claims → c.reserved ≡ a.reserved → c.names ≡ a.names → c.open_rows ≡ a.open_rows → c.mine ≡ a.mine → c.vain ≡ a.vain → c ≡ hand_spent a c
hand_back a c e f g h i k = rw (← e, ← f, ← g, ← h, ← i, ← k) refl

-- a run that was reserved and filled leaves the hand as it was
pub filled_worked : {a b c : View} {k : ℕ} {run : Span} → a.hand.claims ≡ [] → Reserved a b k run → Filled b c run.next run.end → Worked a c
filled_worked {a} {b} {c} {k} {run} none r f =
    let claims_b : b.hand.claims ≡ [] = ap (λ (h : Hand). h.claims) r.hand ∙ none in
    let claims_c : c.hand.claims ≡ [] = no_claims c.hand.claims (f.claims ∙ ap claim_places claims_b) in
    let names_b : b.hand.names ≡ a.hand.names = ap (λ (h : Hand). h.names) r.hand in
    let left : without run.next run.end (a.hand.reserved ++ places_from run.next k) ≡ a.hand.reserved = rw (← r.size) (without-fresh run.next k a.hand.reserved r.unheld) in
    record {
      grows = grows_trans r.grows f.grows;
      words = words_trans a.hand b.hand a.seen b.seen c.seen names_b r.words f.words;
      hand = hand_back a.hand c.hand (claims_c ∙ sym none)
          (ap (λ (h : Hand). h.reserved) f.hand ∙ (ap (λ (h : Hand). without run.next run.end h.reserved) r.hand ∙ left))
          (ap (λ (h : Hand). h.names) f.hand ∙ names_b)
          (ap (λ (h : Hand). h.open_rows) f.hand ∙ ap (λ (h : Hand). h.open_rows) r.hand)
          (ap (λ (h : Hand). h.mine) f.hand ∙ ap (λ (h : Hand). h.mine) r.hand)
          (ap (λ (h : Hand). h.vain) f.hand ∙ ap (λ (h : Hand). h.vain) r.hand);
      refusals = f.refusals ∙ r.refusals;
      about = f.about ∙ r.about;
      rows = λ alone. (let same = r.alone alone in SameRows_trans (record { rows = ap (λ (w : World). w.rows) same.0; named = same.2 }) (f.alone (alone_of a b r.about alone)).0);
    }

-- ---- the loop

-- where the work stands: at a stage of its job, with what this stage and those after it may spend and reserve
pub record Working (old now : View) (first job : EventJob) : Type 0 where
  pub worked : Worked old now
  pub job_is : IsJob now.seen job
  pub same : job ≡ record first { stage = job.stage }
  pub none : now.hand.claims ≡ []
  pub means : HasMeans now job

pub working_start : (v : View) (job : EventJob) → IsJob v.seen job → v.hand.claims ≡ [] → HasMeans v job → Working v v job job
working_start v job is none means = record { worked = worked_refl v; job_is = is; same = refl; none = none; means = means }

pub working_quiet : {old now new : View} {first job : EventJob} → IsLawful now.seen → Working old now first job → Quiet now new → Working old new first job
working_quiet {old} {now} {new} {first} {job} law w q = record {
  worked = worked_trans w.worked (quiet_worked q);
  job_is = job_grows law q.grows job w.job_is;
  same = w.same;
  none = ap (λ (h : Hand). h.claims) q.hand ∙ w.none;
  means = record { credits = omega (arith, w.means.credits, ap (λ (h : Hand). h.credits) q.hand); places = omega (arith, w.means.places, ap (λ (h : Hand). h.allowance) q.hand) };
}

pub working_forced : {old now new : View} {s place : ℕ} {first job : EventJob} → IsLawful now.seen → Working old now first job → ForcedOn now new s place → Working old new first job
working_forced {old} {now} {new} {s} {place} {first} {job} law w f = record {
  worked = worked_trans w.worked f.worked;
  job_is = job_grows law f.worked.grows job w.job_is;
  same = w.same;
  none = worked_claims f.worked ∙ w.none;
  means = record { credits = omega (arith, w.means.credits, f.credits); places = omega (arith, w.means.places, f.allowance) };
}

-- what the build of a stage leaves for the next
pub working_next : {old now mid new : View} {k : ℕ} {run : Span} {first job : EventJob} (next : EventJob) → IsLawful now.seen → Working old now first job → k ≤ places_now job → Reserved now mid k run → Filled mid new run.next run.end → mid.hand.credits ≤ new.hand.credits + due_now job → IsNextStage new.seen job next → Working old new first next
working_next {old} {now} {mid} {new} {k} {run} {first} {job} next law w few r f credits n =
    let all = filled_worked w.none r f in
    let due = left_step (stage_due job.base.kind job.op job.base.size job.other.size) (name_of job.stage) (name_of next.stage) n.later in
    let places = left_step (stage_places job.base.kind job.op job.base.size job.other.size) (name_of job.stage) (name_of next.stage) n.later in
    let credits_mid : mid.hand.credits ≡ now.hand.credits = ap (λ (h : Hand). h.credits) r.hand in
    let allow_mid : mid.hand.allowance ≡ now.hand.allowance - k = ap (λ (h : Hand). h.allowance) r.hand in
    let allow_new : new.hand.allowance ≡ mid.hand.allowance = ap (λ (h : Hand). h.allowance) f.hand in
    let means : HasMeans new (record job { stage = next.stage }) = record { credits = omega (arith, due, credits_mid, credits, w.means.credits); places = omega (arith, places, allow_mid, allow_new, few, w.means.places) } in
    record {
      worked = worked_trans w.worked all;
      job_is = next_job job next (job_grows law all.grows job w.job_is) n;
      same = n.same ∙ ap (λ (t : EventJob). record t { stage = next.stage }) w.same;
      none = worked_claims all ∙ w.none;
      means = subst (λ (t : EventJob). HasMeans new t) (sym n.same) means;
    }

pub working_end : {old now mid new : View} {k : ℕ} {run : Span} {first job : EventJob} (o : Outcome) → Working old now first job → Reserved now mid k run → Filled mid new run.next run.end → IsEnd new.seen job o.root.0 o.size o.reply → MadeOutcome old new first o
working_end {old} {now} {mid} {new} {k} {run} {first} {job} o w r f e = record { worked = worked_trans w.worked (filled_worked w.none r f); end = end_of_first first job o.root.0 o.size o.reply w.same e }

-- the job's operation is that of the first stage
pub kind_op : (first job : EventJob) (P : Kind → Op → Type 0) → job ≡ record first { stage = job.stage } → P first.base.kind first.op → P job.base.kind job.op
kind_op first job P same h = subst (λ (t : EventJob). P t.base.kind t.op) (sym same) h

pub kind_op_back : (first job : EventJob) (P : Kind → Op → Type 0) → job ≡ record first { stage = job.stage } → P job.base.kind job.op → P first.base.kind first.op
kind_op_back first job P same h = subst (λ (t : EventJob). P t.base.kind t.op) same h

-- the places of a stage are among those of the whole event
pub places_of_first : (first job : EventJob) → job ≡ record first { stage = job.stage } → places_now job ≤ direct_of first
places_of_first first job same =
    let whole : direct_of job ≡ direct_of first = ap direct_of same in
    omega (arith, own_places job, places_direct job, whole)

pub may_reserve : {old now : View} {first job : EventJob} {k : ℕ} → Working old now first job → k ≤ places_now job → k ≤ now.hand.allowance
may_reserve {old} {now} {first} {job} w few = omega (arith, w.means.places, own_places job, few)

-- what a build asks
pub working_buildable : {old now mid : View} {k : ℕ} {run : Span} {first job : EventJob} (cursor : Cursor) → IsLawful now.seen → Working old now first job → IsReadyEvent cursor now.seen job k → Reserved now mid k run → IsEventBuildable (IsReadyEvent cursor) mid job run
working_buildable {old} {now} {mid} {k} {run} {first} {job} cursor law w ready r =
    let credits : mid.hand.credits ≡ now.hand.credits = ap (λ (h : Hand). h.credits) r.hand in
    record {
      base = now.seen;
      base_lawful = law;
      base_grows = r.grows;
      base_job = w.job_is;
      nodes = k;
      base_ready = ready;
      above = λ q t e. r.fresh q t (r.grows.records q t e);
      size = r.size;
      held = reserved_held r;
      credits = omega (arith, own_due job, credits, w.means.credits);
    }

-- ---- each turn comes nearer to the end

need_pending : (does : Rec → Bool) (w : World) (t : ℕ) → IsWork does w t → holds (recs w) t is_pending ≡ true
need_pending does w t h = let k = at_true _ (recs w t) h in rw k.1 (and_parts (is_pending k.0) (does k.0) k.2).0

quiet_no_more : {now new : View} (job : EventJob) → Quiet now new → turns_left new job ≤ turns_left now job
quiet_no_more {now} {new} job q =
    let more = forced_rises q.grows in
    let same : new.about.capacity ≡ now.about.capacity = ap (λ (t : About). t.capacity) q.about in
    omega (arith, more, same)

pub forced_turn : {now mid new : View} {does : Rec → Bool} (job : EventJob) (t place : Ref) → IsLawfulView new → Quiet now mid → IsEventNeed does mid.seen job t.0 → ForcedOn mid new t.0 place.0 → turns_left new job < turns_left now job
forced_turn {now} {mid} {new} {does} job t place law q n f =
    let d = f.done (need_pending does mid.seen t.0 n.work) in
    let more = forced_more f.worked.grows t.0 n.not_done (place.0, d.0) d.1 in
    let most = forced_most law in
    let same : new.about.capacity ≡ mid.about.capacity = ap (λ (x : About). x.capacity) f.worked.about in
    omega (arith, more, most, same, quiet_no_more job q)

position_most : (s : StageName) → position s ≤ 3
position_most at_start = omega arith
position_most at_heap_paid = omega arith
position_most at_parts = omega arith
position_most at_root = omega arith

pub stage_turn : {now mid res new : View} {k : ℕ} {run : Span} (job next : EventJob) → Quiet now mid → Reserved mid res k run → Filled res new run.next run.end → position (name_of job.stage) < position (name_of next.stage) → turns_left new next < turns_left now job
stage_turn {now} {mid} {res} {new} job next q r f later =
    let more = forced_rises (grows_trans q.grows (grows_trans r.grows f.grows)) in
    let same : new.about.capacity ≡ now.about.capacity = ap (λ (t : About). t.capacity) (f.about ∙ (r.about ∙ q.about)) in
    omega (arith, more, same, later, position_most (name_of next.stage))

-- ---- a force of the engine

pub gave_up_stopped : (a b : View) (s : ℕ) (made : Result Ref GiveUp) → a.about.alone ≡ true → a.hand.claims ≡ [] → IsLawfulView a → IsLawfulView b → IfErr made (λ cause. IsGivenUp a b s cause) → IfErr made (λ cause. Stopped a b 0 cause)
gave_up_stopped a b s (Ok place) alone none law law' h = tt
gave_up_stopped a b s (Err cause) alone none law law' h = given_stopped cause alone none law law' h
