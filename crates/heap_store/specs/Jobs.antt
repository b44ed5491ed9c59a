-- What a prepare tells of pending work, what a build asks and makes, and the same of events.
use Rattle.std.specs.Prelude.{◌≡◌, ℕ, zero, suc, ◌+◌, ◌*◌, ◌^◌, ◌<◌, ◌≤◌, eqb, Bool, true, false, cond, not, ◌&&◌, ◌||◌, Option, Some, None, List, [], ◌∷◌, ◌++◌, length, drop}
use Rattle.std.specs.List.{list_any, list_all}
use Rattle.lazy_rec.specs.declared.places.Ref.{Ref}
use Rattle.lazy_rec.specs.declared.records.Rec.{Rec}
use Rattle.lazy_rec.specs.declared.records.Rec.TheVariants.{StreamTop, BankTop, RtTop, HeapTop, CatNode, Append, Reverse, BankRot, RtRot, HeapInsert, HeapMerge, LinkAll}
use Rattle.lazy_rec.specs.declared.records.Sort.TheVariants as sorts
use Rattle.lazy_rec.specs.declared.events.Kind.{Kind}
use Rattle.lazy_rec.specs.declared.events.Op.{Op}
use Rattle.lazy_rec.specs.declared.events.Op.TheVariants as ops
use Rattle.lazy_rec.specs.declared.events.Reply.{Reply}
use Rattle.lazy_rec.specs.declared.events.Reply.TheVariants as replies
use Rattle.lazy_rec.specs.declared.limits.TheConstants.{MOST_ITEMS}
use Rattle.lazy_rec.specs.Tests.{is_some_and, implies}
use Rattle.lazy_rec.specs.Kinds.{belongs, same_kind}
use Rattle.lazy_rec.specs.Plain.{effect}
use Rattle.lazy_rec.specs.Due.{may_force}
use Rattle.lazy_rec.specs.Named.{NamedPlace, named, sort_of, same_sort, is_pending}
use Rattle.lazy_rec.specs.Meaning.{means}
use Rattle.lazy_rec.specs.Units.{steps}
use Rattle.heap_store.specs.declared.claims.HeldClaim.{HeldClaim}
use Rattle.heap_store.specs.declared.versions.Version.{Version}
use Rattle.heap_store.specs.declared.jobs.Cursor.{Cursor}
use Rattle.heap_store.specs.declared.jobs.Prep.{Prep}
use Rattle.heap_store.specs.declared.jobs.Prep.TheVariants.{Need, Ready}
use Rattle.heap_store.specs.declared.jobs.Stage.{Stage}
use Rattle.heap_store.specs.declared.jobs.Stage.TheVariants.{Start, HeapPaid, Parts, Root}
use Rattle.heap_store.specs.declared.jobs.EventJob.{EventJob}
use Rattle.heap_store.specs.declared.jobs.After.{After}
use Rattle.heap_store.specs.declared.jobs.After.TheVariants.{End, Next}
use Rattle.heap_store.specs.Span.{Span}
use Rattle.heap_store.specs.World.{World, recs, holds, done_at, is_value, value_at, SameAttempts}
use Rattle.heap_store.specs.Completion.{on_rt_queue, first_cell}
use Rattle.heap_store.specs.Growth.{Grows}
use Rattle.heap_store.specs.Legal.{in_order}
use Rattle.heap_store.specs.Lawful.{IsLawful, is_root, is_of_level, keeps_keys, walk, needs, height}
use Rattle.heap_store.specs.LookedAt.{has_looked}
use Rattle.heap_store.specs.Hand.{KeepsWords, IsInHand, claim_places, fresh_claim, without}
use Rattle.heap_store.specs.Budget.{is_funded, is_funded_at}
use Rattle.heap_store.specs.View.{View, SameRows, MayComplete, unforced}
use Rattle.heap_store.specs.Stages.{name_of, has_stage, position, due_now, places_now}

-- ---- pending work

-- a published suspension that somebody can do
abbrev pub IsWork : (Rec → Bool) → World → ℕ → Type 0
IsWork does w s = holds (recs w) s (λ r. is_pending r && does r) ≡ true

-- where the cells begin that a prepare of the record passes one by one
abbrev pub first_cells : Rec → Option ℕ
first_cells (Reverse xs _) = Some xs.0
first_cells _ = None

-- the cursor stands so many cells, all values or done, behind the first one
abbrev pub cursor_fits_record : World → Cursor → Rec → Bool
cursor_fits_record w c r = eqb c.passed 0 || is_some_and (λ first. is_some_and (eqb c.place.0) (walk w c.passed first)) (first_cells r)

abbrev pub cursor_fits : World → ℕ → Cursor → Bool
cursor_fits w s c = holds (recs w) s (cursor_fits_record w c)

-- the most places that a completion takes
abbrev pub most_places : Rec → ℕ
most_places (Append _ _ left _ _) = cond (eqb left 1) 1 2
most_places (Reverse _ left) = left
most_places (BankRot _ _ left _ off) = cond (eqb left 0) (off + 1) 2
most_places (RtRot _ _ _ left _ _) = cond (eqb left 0) 1 3
most_places (HeapInsert item list size) = 2 * steps (HeapInsert item list size)
most_places (HeapMerge list1 list2 n1 n2) = 4 * steps (HeapMerge list1 list2 n1 n2)
most_places (LinkAll _ len _ _ _) = cond (eqb len 1) 0 8
most_places r = 8 * steps r

-- whether each completion of the suspension takes that many
abbrev pub takes_most : Rec → Bool
takes_most (Append _ _ _ _ _) = true
takes_most (Reverse _ _) = true
takes_most (BankRot _ _ _ _ _) = true
takes_most (RtRot _ _ _ _ _ _) = true
takes_most (LinkAll _ len _ _ _) = eqb len 1
takes_most _ = false

-- what a kind of work says of a suspension whose needs are done, and of its places. Of a record that isn't of the kind it says
-- nothing: it is an implication from what the record is
abbrev pub Readiness : Type 1
Readiness = World → ℕ → ℕ → Type 0

-- all needs of the suspension are done, and its completion takes so many places, by what its kind of work says of that
pub record IsReady (ready : Readiness) (w : World) (s nodes : ℕ) : Type 0 where
  pub rec : Rec
  pub here : recs w s ≡ Some rec
  pub needs : list_all (is_value w) (needs w rec) ≡ true
  pub told : ready w s nodes
  pub most : nodes ≤ most_places rec
  pub exact : takes_most rec ≡ true → nodes ≡ most_places rec

-- a need of the suspension, of a lower height, that isn't done yet, and that is paid for where the suspension is. (The load of
-- its state is the prepare's last call: on a shared store a later one may show it done.)
pub record IsNeed (does : Rec → Bool) (w : World) (s t : ℕ) : Type 0 where
  pub rec : Rec
  pub here : recs w s ≡ Some rec
  pub need : list_any (λ q. eqb q t) (needs w rec) ≡ true
  pub other : Rec
  pub there : recs w t ≡ Some other
  pub work : IsWork does w t
  pub lower : height (recs w) t < height (recs w) s
  pub not_done : done_at w t ≡ None
  pub funded : is_funded w s rec ≡ true → is_funded w t other ≡ true

abbrev pub Prepared : (Rec → Bool) → Readiness → World → ℕ → Prep → Type 0
Prepared does ready w s (Need t) = IsNeed does w s t.0
Prepared does ready w s (Ready nodes) = IsReady ready w s nodes

-- the newest claim is of the suspension, and its attempt has published nothing
abbrev pub IsNewest : Ref → List HeldClaim → Type 0
IsNewest s [] = ⊥
IsNewest s (c ∷ cs) = c ≡ fresh_claim s

-- the newest claim is of the suspension, and its attempt hasn't published the next one of its family. A part of a build that
-- publishes no later suspension keeps that
abbrev pub IsUnpassed : Ref → List HeldClaim → Type 0
IsUnpassed s [] = ⊥
IsUnpassed s (c ∷ cs) = (c.place ≡ s) × (c.passed ≡ false)

-- what a build asks: all needs were done in the world `base` that was seen when the run was reserved
pub record IsBuildable (told : Readiness) (v : View) (s : Ref) (run : Span) : Type 0 where
  pub base : World
  pub base_lawful : IsLawful base
  pub base_grows : Grows base v.seen
  pub nodes : ℕ
  pub ready : IsReady told base s.0 nodes
  pub above : (q : ℕ) (r : Rec) → recs base q ≡ Some r → q < run.next
  pub size : run.next + nodes ≡ run.end
  pub held : IsInHand v.hand run
  pub newest : IsNewest s v.hand.claims

-- the places from `from` up to `to` were published, and nothing else happened: of the claims only the newest may say now that
-- it was built or passed, and credits were brought or spent
pub record Filled (old new : View) (from to : ℕ) : Type 0 where
  pub grows : Grows old.seen new.seen
  pub words : KeepsWords old.hand old.seen new.seen
  pub hand : new.hand ≡ record old.hand { reserved = without from to old.hand.reserved; claims = new.hand.claims; credits = new.hand.credits }
  pub claims : claim_places new.hand.claims ≡ claim_places old.hand.claims
  pub older : drop 1 new.hand.claims ≡ drop 1 old.hand.claims
  pub refusals : new.refusals ≡ old.refusals
  pub about : new.about ≡ old.about
  pub alone : old.about.alone ≡ true → SameRows old new × (new.drawn ≡ old.drawn) × (unforced new.seen + from ≤ unforced old.seen + to) × SameAttempts old.seen new.seen

-- a build filled its run and made a value with which the suspension may be completed. It spends no credits but those that it
-- brings
pub record IsBuilt (old new : View) (s : ℕ) (before after : Span) (place steps : ℕ) : Type 0 where
  pub filled : Filled old new before.next before.end
  pub spent : after.next ≡ after.end
  pub value : MayComplete new.seen s place steps
  pub small : steps < 2 ^ 22
  pub credits : old.hand.credits ≤ new.hand.credits

-- ---- events

-- a version that the world shows: its root is the top record of its kind and a value, and it has as many items as it says
pub record IsVersion (w : World) (v : Version) : Type 0 where
  pub value : holds (recs w) v.root.0 (λ r. not (is_pending r)) ≡ true
  pub root : holds (recs w) v.root.0 (is_root (recs w) v.kind v.root.0) ≡ true
  pub size : v.size ≡ length (means (recs w) v.root.0)
  pub most : v.size ≤ MOST_ITEMS

-- the list of items of a version
abbrev pub list_at : World → Version → List ℕ
list_at w v = in_order v.kind (means (recs w) v.root.0)

-- what the job's operation does on plain lists
abbrev pub outcome : World → EventJob → List ℕ × Reply
outcome w job = effect job.op (list_at w job.base) (list_at w job.other) job.arg

-- a finger tree of the whole tree's level, with the keys of the kind
abbrev pub is_part : World → Kind → ℕ → Bool
is_part w k p = holds (recs w) p (λ r. same_sort (sort_of r) sorts.Finger) && is_of_level (recs w) p 0 && keeps_keys k (recs w) p

abbrev pub is_list_part : World → Kind → Bool → ℕ → Bool
is_list_part w k listed p = implies listed (holds (recs w) p (λ r. same_sort (sort_of r) sorts.Digit) && is_of_level (recs w) p 0 && keeps_keys k (recs w) p)

-- a heap's top with the list and the size of another, that owes nothing
abbrev pub is_paid_top : Rec → Rec → Bool
is_paid_top (HeapTop list size owed) (HeapTop list' size' owed') = eqb list.0 list'.0 && eqb size size' && eqb owed' 0
is_paid_top _ _ = false

abbrev pub list_between : World → Bool → ℕ → List ℕ
list_between w listed p = cond listed (means (recs w) p) []

-- the facts of a stage
abbrev pub StageWell : World → EventJob → Stage → Type 0
StageWell w job Start = Unit {0}
StageWell w job (HeapPaid top) = holds (recs w) job.base.root.0 (λ r. holds (recs w) top.0 (is_paid_top r)) ≡ true
StageWell w job (Parts left right list listed) =
    (is_part w job.base.kind left.0 && is_part w job.base.kind right.0 && is_list_part w job.base.kind listed list.0 ≡ true)
    × ((outcome w job).1 ≡ replies.Ok)
    × ((outcome w job).0 ≡ in_order job.base.kind (means (recs w) left.0 ++ list_between w listed list.0 ++ means (recs w) right.0))
StageWell w job (Root root reply) =
    (is_part w job.base.kind root.0 ≡ true) × (reply ≡ (outcome w job).1) × (in_order job.base.kind (means (recs w) root.0) ≡ (outcome w job).0)

-- what a job's versions and stage are, in the world that was seen
pub record IsJob (w : World) (job : EventJob) : Type 0 where
  pub op : belongs job.base.kind job.op ≡ true
  pub kinds : same_kind job.base.kind job.other.kind ≡ true
  pub base : IsVersion w job.base
  pub other : IsVersion w job.other
  pub has : has_stage job.base.kind job.op (name_of job.stage) ≡ true
  pub stage : StageWell w job job.stage

-- a place is reached from another through the places that its value and the values below it name, in at most so many steps
abbrev pub reaches : ℕ → World → ℕ → ℕ → Bool
reaches zero w p t = eqb p t
reaches (suc n) w p t = eqb p t || is_some_and (λ r. list_any (λ (q : NamedPlace). reaches n w q.0 t) (named r)) (value_at w p)

-- the schedule of the queue of a catenable list's node
abbrev pub is_own_sched : World → ℕ → Rec → Bool
is_own_sched w t (CatNode _ kids _) = holds (recs w) kids.0 (on_rt_queue (λ _ _ _ _ sched. eqb sched t))
is_own_sched w t _ = false

-- of a queue of children: its front and schedule, the first child, and that child's own schedule
abbrev pub is_kids_place : World → ℕ → Rec → Bool
is_kids_place w t = on_rt_queue (λ front _ _ _ sched. eqb front t || eqb sched t || first_cell w front (λ is_child child _. is_child && (eqb child t || is_some_and (is_own_sched w t) (value_at w child))))

-- a suspension of a finger tree that is reached from a place
abbrev pub is_reached : World → ℕ → ℕ → Bool
is_reached w t p = reaches (length w.nodes) w p t && holds (recs w) t (λ s. is_pending s && same_sort (sort_of s) sorts.Finger)

-- a place that an operation may have to force, by the record of its base's root: those that it looks at, and in a finger tree
-- a suspension that is reached
abbrev pub may_seek : World → Op → ℕ → ℕ → Rec → Bool
may_seek w ops.Head p t (StreamTop front _) = eqb front.0 t
may_seek w ops.Tail p t (StreamTop front _) = eqb front.0 t
may_seek w ops.Head p t (BankTop _ front _ _ _ _ _ _) = eqb front.0 t
may_seek w ops.Tail p t (BankTop _ front _ _ _ _ _ _) = eqb front.0 t
may_seek w ops.Head p t (RtTop front _ _ _ _) = eqb front.0 t
may_seek w ops.Tail p t (RtTop front _ _ _ sched) = eqb front.0 t || eqb sched.0 t
may_seek w ops.Snoc p t (RtTop _ _ _ _ sched) = eqb sched.0 t
may_seek w ops.Min p t (HeapTop list _ _) = eqb list.0 t
may_seek w ops.Delmin p t (HeapTop list _ _) = eqb list.0 t
may_seek w ops.Snoc p t (CatNode value kids size) = is_own_sched w t (CatNode value kids size)
may_seek w ops.Append p t (CatNode value kids size) = is_own_sched w t (CatNode value kids size)
may_seek w ops.Tail p t (CatNode _ kids _) = holds (recs w) kids.0 (is_kids_place w t)
may_seek w op p t r = same_sort (sort_of r) sorts.Finger && is_reached w t p

-- what an earlier stage has made is sought too
abbrev pub may_stage_seek : World → ℕ → Stage → Bool
may_stage_seek w t (Parts left right list listed) = is_reached w t left.0 || is_reached w t right.0 || (listed && is_reached w t list.0)
may_stage_seek w t (Root root _) = is_reached w t root.0
may_stage_seek w t _ = false

-- of the other version only what is reached in a finger tree
abbrev pub other_seeks : World → EventJob → ℕ → Bool
other_seeks w job t = holds (recs w) job.other.root.0 (λ r. same_sort (sort_of r) sorts.Finger) && is_reached w t job.other.root.0

abbrev pub is_sought : World → EventJob → ℕ → Bool
is_sought w job t = (holds (recs w) job.base.root.0 (may_seek w job.op job.base.root.0 t) || other_seeks w job t) || may_stage_seek w t job.stage

-- a suspension that the job needs, that isn't done yet, and that is paid for
pub record IsEventNeed (does : Rec → Bool) (w : World) (job : EventJob) (t : ℕ) : Type 0 where
  pub work : IsWork does w t
  pub sought : is_sought w job t ≡ true
  pub not_done : done_at w t ≡ None
  pub forces : may_force job.base.kind job.op ≡ true
  pub funded : is_funded_at w t ≡ true

-- what a stage needs is done, by what its structure says of that (`ready`), and its places are at most what the stage may take
abbrev pub EventPrepared : (Rec → Bool) → (World → EventJob → ℕ → Type 0) → World → EventJob → Prep → Type 0
EventPrepared does ready w job (Need t) = IsEventNeed does w job t.0
EventPrepared does ready w job (Ready nodes) = ready w job nodes × (nodes ≤ places_now job)

-- what the build of a stage asks: it was ready in the world `base` that was seen when the run was reserved, and as many credits
-- are in hand as the stage may spend
pub record IsEventBuildable (ready : World → EventJob → ℕ → Type 0) (v : View) (job : EventJob) (run : Span) : Type 0 where
  pub base : World
  pub base_lawful : IsLawful base
  pub base_grows : Grows base v.seen
  pub base_job : IsJob base job
  pub nodes : ℕ
  pub base_ready : ready base job nodes
  pub above : (q : ℕ) (r : Rec) → recs base q ≡ Some r → q < run.next
  pub size : run.next + nodes ≡ run.end
  pub held : IsInHand v.hand run
  pub credits : due_now job ≤ v.hand.credits

-- the end of an event: a value root that means the outcome's list, with its size and reply, after the base was looked at
pub record IsEnd (w : World) (job : EventJob) (root size : ℕ) (reply : Reply) : Type 0 where
  pub root_is : holds (recs w) root (is_root (recs w) job.base.kind root) ≡ true
  pub value : holds (recs w) root (λ r. not (is_pending r)) ≡ true
  pub means : in_order job.base.kind (means (recs w) root) ≡ (outcome w job).0
  pub size_is : size ≡ length (outcome w job).0
  pub reply_is : reply ≡ (outcome w job).1
  pub looked : has_looked w job.op reply job.base.root.0 job.other.size ≡ true

-- a later stage of the same event
pub record IsNextStage (w : World) (job next : EventJob) : Type 0 where
  pub same : next ≡ record job { stage = next.stage }
  pub has : has_stage job.base.kind job.op (name_of next.stage) ≡ true
  pub later : position (name_of job.stage) < position (name_of next.stage)
  pub facts : StageWell w next next.stage

abbrev pub IsAfter : World → EventJob → After → Type 0
IsAfter w job (End root size reply) = IsEnd w job root.0 size reply
IsAfter w job (Next next) = IsNextStage w job next

-- the build of a stage filled its run, and made the event's result or the next stage
pub record IsEventBuilt (old new : View) (job : EventJob) (before after : Span) (result : After) : Type 0 where
  pub filled : Filled old new before.next before.end
  pub spent : after.next ≡ after.end
  pub made : IsAfter new.seen job result
  pub credits : old.hand.credits ≤ new.hand.credits + due_now job
