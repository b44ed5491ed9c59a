use Rattle.std.proofs.Common.{◌≡◌, ◌∙◌, refl, sym, ap, true}
use Rattle.std.specs.Prelude.{slice_get}
use Rattle.std.proofs.lemmas.Bool.{eq-eqb}
use Rattle.lazy_rec.specs.Meaning.{means}
use Rattle.lazy_rec.specs.Plain.{told}
use Rattle.heap_store.specs.World.{recs, is_value}
use Rattle.heap_store.specs.View.{Quiet}
use Rattle.heap_store.proofs.GrowthLaws.{is_value_up}
use Rattle.heap_store.proofs.ReadLaws.{is_there}
use Rattle.heap_store.proofs.Steps.{Quiet_trans}
use Rattle.binom_heap.proofs.ListValues.{DoneList, list_there, value_trees}
use Rattle.binom_heap.proofs.Tops.{old_top}
use Rattle.binom_heap.proofs.EventTops.{other_kind, built_same}
use Rattle.binom_heap.proofs.EventPaid.{PaidBase, PaidTop, paid_base, no_removal, read_list, min_end}
use Rattle.binom_heap.proofs.Melds.{means_up}
use Rattle.lazy_rec.specs.declared.places.Ref.{Ref}
use Rattle.binom_heap.proofs.events.min.Goals as goal
use Rattle.binom_heap.proofs.events.min.Goals.{Start as Begun, After-read_top-paid, After-trees_of-trees}

base : (g : _) (c : Begun g) → PaidBase (g.H.Heap.view c.args.h.now) c.args.job.now c.args.run.now c.args.top
base g c = paid_base c.requires.build c.requires.kind c.args.top c.requires.stage

pub read_top-paid-requires : goal.read_top-paid-requires
read_top-paid-requires g c = let k = (base g (goal.at.read_top-paid-requires g c).Start).paid.here in rw k refl

-- the top that was read owes nothing, and its list is done
base_of : (g : _) (c : After-read_top-paid g) → PaidBase (g.H.Heap.view c.args.h.now) c.args.job.now c.args.run.now c.args.top
base_of g c = paid_base c.requires.build c.requires.kind c.args.top c.requires.stage

same_list : (g : _) (c : After-read_top-paid g) → c.read_top-paid.result.list ≡ (base_of g c).paid.list
same_list g c = read_list (g.H.Heap.view c.args.h.now).seen c.args.top.0 c.read_top-paid.result (base_of g c).paid.list (base_of g c).paid.base.size c.read_top-paid.ensures.top (base_of g c).paid.here

known : (g : _) (c : After-read_top-paid g) → is_value (g.H.Heap.view c.read_top-paid.new.h).seen c.read_top-paid.result.list.0 ≡ true
known g c = is_value_up _ _ c.read_top-paid.ensures.quiet.grows c.read_top-paid.result.list.0 (let s = same_list g c in rw s (base_of g c).known)

pub trees_of-trees-requires : goal.trees_of-trees-requires
trees_of-trees-requires g c =
    let d = (goal.at.trees_of-trees-requires g c).After-read_top-paid in
    let o = old_top (g.met.H.Heap.lawful c.read_top-paid.new.h).world c.args.top.0 c.read_top-paid.result (c.read_top-paid.ensures.quiet.grows.records _ _ c.read_top-paid.ensures.top) in
    record { there = is_there (recs (g.H.Heap.view c.read_top-paid.new.h).seen) c.read_top-paid.result.list.0 (list_there o.list); known = known g d }

-- ---- after the trees were found

quiet : (g : _) (c : After-trees_of-trees g) → Quiet (g.H.Heap.view c.args.h.now) (g.H.Heap.view c.trees_of-trees.new.h)
quiet g c = Quiet_trans c.read_top-paid.ensures.quiet c.trees_of-trees.ensures.quiet

done : (g : _) (c : After-trees_of-trees g) → DoneList (g.H.Heap.view c.trees_of-trees.new.h).seen c.read_top-paid.result.list.0 c.trees_of-trees.result.0 c.read_top-paid.result.size
done g c =
    let law = (g.met.H.Heap.lawful c.trees_of-trees.new.h).world in
    let o = old_top law c.args.top.0 c.read_top-paid.result ((quiet g c).grows.records _ _ c.read_top-paid.ensures.top) in
    value_trees law c.args.top.0 c.read_top-paid.result.list.0 c.read_top-paid.result.size c.trees_of-trees.result.0 o.list c.trees_of-trees.ensures.place

pub least_reply-reply-requires : goal.least_reply-reply-requires
least_reply-reply-requires g c = let k = done g (goal.at.least_reply-reply-requires g c).After-trees_of-trees in record { trees = k.trees; rise = k.rise }

pub returns : goal.returns
returns g c =
    let d = (goal.at.returns g c).After-trees_of-trees in
    let r = (goal.at.returns g c).After-read_top-paid in
    let job = c.args.job.now in
    let law = (g.met.H.Heap.lawful c.least_reply-reply.new.h).world in
    let law2 = (g.met.H.Heap.lawful c.trees_of-trees.new.h).world in
    let q = Quiet_trans (quiet g d) c.least_reply-reply.ensures.quiet in
    let k = base_of g r in
    let p = k.paid in
    let now : PaidTop (g.H.Heap.view c.least_reply-reply.new.h).seen job.base.root.0 c.args.top.0 = record { base = p.base; base_here = q.grows.records _ _ p.base_here; list = p.list; same = p.same; here = q.grows.records _ _ p.here } in
    let o = old_top law2 c.args.top.0 (record { list = p.list; size = p.base.size; owed = 0 }) ((quiet g d).grows.records _ _ p.here) in
    let up : means (recs (g.H.Heap.view c.least_reply-reply.new.h).seen) p.list.0 ≡ means (recs (g.H.Heap.view c.trees_of-trees.new.h).seen) p.list.0 = means_up law2 c.least_reply-reply.ensures.quiet.grows o.list in
    let same : means (recs (g.H.Heap.view c.trees_of-trees.new.h).seen) c.trees_of-trees.result.0 ≡ means (recs (g.H.Heap.view c.least_reply-reply.new.h).seen) p.list.0 = (done g d).means_are ∙ (ap (λ (l : Ref). means (recs (g.H.Heap.view c.trees_of-trees.new.h).seen) l.0) (same_list g r) ∙ sym up) in
    let reply = c.least_reply-reply.ensures.least ∙ ap (λ xs. told (slice_get xs 0)) same in
    record {
      top = eq-eqb c.args.top.0 c.args.top.0 refl;
      built = built_same q (no_removal k c.requires.op) c.args.top job.base.size c.least_reply-reply.result
          (min_end law job c.requires.kind (other_kind job c.requires.build.base_job c.requires.kind) c.requires.op c.args.top now k.size (is_value_up _ _ q.grows p.list.0 k.known) c.least_reply-reply.result reply) _ refl;
    }
