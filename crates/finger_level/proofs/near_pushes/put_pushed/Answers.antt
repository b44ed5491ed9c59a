use Rattle.std.proofs.Common.{◌≡◌, ◌+◌, refl, sym, ap, ◌∙◌, arith, true, Some, length}
use Rattle.std.specs.Prelude.{flat_map}
use Rattle.lazy_rec.specs.declared.records.Rec.TheVariants.{Deep}
use Rattle.lazy_rec.specs.Meaning.{means}
use Rattle.heap_store.specs.World.{recs, holds}
use Rattle.heap_store.specs.View.{Quiet}
use Rattle.heap_store.proofs.Steps.{Quiet_trans}
use Rattle.finger_level.specs.declared.few.Few.{Few}
use Rattle.finger_level.specs.declared.level.Level.{Level}
use Rattle.finger_level.specs.declared.level.Pushed.TheVariants as pushes
use Rattle.finger_level.specs.Few.{few_list}
use Rattle.finger_level.specs.Keyed.{key_in}
use Rattle.finger_level.specs.Pushes.{IsPushed}
use Rattle.finger_level.specs.Puts.{LevelAsk}
use Rattle.finger_level.specs.Reads.{is_tree_value, is_element, IsDigitAt, IsWeight, IsWeighedAt}
use Rattle.finger_level.proofs.Betweens.{there_later}
use Rattle.finger_level.proofs.Draws.{deep_digits, end_keys}
use Rattle.finger_level.proofs.Found.{digit_grows}
use Rattle.finger_level.proofs.Keying.{keyed_of, digit_keys, element_keyed}
use Rattle.finger_level.proofs.Popping.{few_there}
use Rattle.finger_level.proofs.Pushing.{both_length}
use Rattle.finger_level.proofs.NearPushes.{near_level, near_pushed, near_small, pushed_back, weighed_up, weight_up, more_items, more_key, more_keyed}
use Rattle.finger_level.proofs.NearPuts.{near_ask, near_level as put_level}
use Rattle.finger_level.proofs.Overflows.{Full, next_there, push_ask, both_fit, near_ask as full_ask, kept_counts, pushed_put}
use Rattle.finger_level.proofs.near_pushes.put_pushed.Goals as goal
use Rattle.finger_level.proofs.near_pushes.put_pushed.Goals.{In-Deep, In-Some, After-overflowed-over, After-weigh-next}

-- ---- the whole level

pub put_whole-requires : goal.put_whole-requires
put_whole-requires g c =
    let q = c.read.ensures.quiet in
    record { value = there_later q.grows is_tree_value c.args.root.0 c.requires.value; ask = λ v k. c.requires.ask v (Quiet_trans q k) }

pub returns-in_default : goal.returns-in_default
returns-in_default g c = pushed_back c.read.ensures.quiet c.put_whole.ensures

-- ---- the digit alone

here : (g : _) (c : In-Deep g) → recs (g.H.Heap.view c.read.new.self).seen c.args.root.0 ≡ Some (Deep c.in-Deep.left c.in-Deep.middle c.in-Deep.right c.in-Deep.size c.in-Deep.key)
here g c = c.read.ensures.quiet.grows.records _ _ c.in-Deep.ensures.rec

pub read_weighed-digit-requires : goal.read_weighed-digit-requires
read_weighed-digit-requires g c = (deep_digits (g.met.H.Heap.lawful c.read.new.self).world c.args.root.0 c.in-Deep.left c.in-Deep.middle c.in-Deep.right c.in-Deep.size c.in-Deep.key (here g (goal.at.read_weighed-digit-requires g c).In-Deep) c.args.side c.both_ends.result.0 c.both_ends.result.1 c.both_ends.ensures).0

quiet : (g : _) (c : In-Some g) → Quiet (g.H.Heap.view c.args.h.now) (g.H.Heap.view c.read_weighed-digit.new.h)
quiet g c = Quiet_trans c.read.ensures.quiet c.read_weighed-digit.ensures.quiet

now : (g : _) (c : In-Some g) → recs (g.H.Heap.view c.read_weighed-digit.new.h).seen c.args.root.0 ≡ Some (Deep c.in-Deep.left c.in-Deep.middle c.in-Deep.right c.in-Deep.size c.in-Deep.key)
now g c = (quiet g c).grows.records _ _ c.in-Deep.ensures.rec

-- the digit and the element, as they are weighed
digit : (g : _) (c : In-Some g) → IsWeighedAt (g.H.Heap.view c.read_weighed-digit.new.h).seen c.both_ends.result.0.0 c.read_weighed-digit.result
digit g c = weighed_up (g.met.H.Heap.lawful c.read.new.self).world (g.met.H.Heap.lawful c.read_weighed-digit.new.h).world c.read_weighed-digit.ensures.quiet.grows c.both_ends.result.0.0 c.read_weighed-digit.result c.read_weighed-digit.ensures.weighed

element : (g : _) (c : In-Some g) → IsWeight (g.H.Heap.view c.read_weighed-digit.new.h).seen c.args.e.0 c.args.own
element g c = weight_up (g.met.H.Heap.lawful c.args.h.now).world (quiet g c).grows c.args.e.0 c.args.own c.requires.element c.requires.weight

-- the other digit, whatever it has
far : (g : _) (c : In-Some g) → (f : Few) × IsDigitAt (g.H.Heap.view c.read_weighed-digit.new.h).seen c.both_ends.result.1.0 f
far g c =
    let law = (g.met.H.Heap.lawful c.read_weighed-digit.new.h).world in
    few_there law c.both_ends.result.1.0 (deep_digits law c.args.root.0 c.in-Deep.left c.in-Deep.middle c.in-Deep.right c.in-Deep.size c.in-Deep.key (now g c) c.args.side c.both_ends.result.0 c.both_ends.result.1 c.both_ends.ensures).1

-- what the level asks that the push makes
asked : (g : _) (c : In-Some g) → (f : Few) → IsDigitAt (g.H.Heap.view c.read_weighed-digit.new.h).seen c.both_ends.result.1.0 f → LevelAsk (g.H.Heap.view c.read_weighed-digit.new.h) c.args.run.now (near_level c.args.side c.in-Some.few c.in-Deep.middle c.both_ends.result.1 f) c.args.family.now c.args.whole
asked g c f at =
    let law = (g.met.H.Heap.lawful c.read_weighed-digit.new.h).world in
    c.requires.ask (g.H.Heap.view c.read_weighed-digit.new.h) (quiet g c) law _ (near_pushed law c.args.side c.args.e c.args.root.0 c.in-Deep.left c.in-Deep.middle c.in-Deep.right c.in-Deep.size c.in-Deep.key (now g c) c.both_ends.result c.both_ends.ensures c.read_weighed-digit.result.few c.in-Some.few f (digit g c).shown (c.in-Some.ensures.longer c.in-Some.few refl) at)

counts : (g : _) (c : In-Some g) → c.read_weighed-digit.result.weight.size + c.args.own.size ≡ length (flat_map (means (recs (g.H.Heap.view c.read_weighed-digit.new.h).seen)) (few_list c.in-Some.few))
counts g c =
    let f = means (recs (g.H.Heap.view c.read_weighed-digit.new.h).seen) in
    let es = few_list c.read_weighed-digit.result.few in
    let all = ap length (more_items f c.args.side c.args.e.0 es (few_list c.in-Some.few) (c.in-Some.ensures.longer c.in-Some.few refl)) ∙ both_length c.args.side (f c.args.e.0) (flat_map f es) in
    let d = (digit g c).size in
    let e = (element g c).size in
    omega (arith, all, d, e)

pub weigh_both-weight-requires-2 : goal.weigh_both-weight-requires-2
weigh_both-weight-requires-2 g c =
    let d = (goal.at.weigh_both-weight-requires-2 g c).In-Some in
    let n = counts g d in
    let f = far g d in
    let s = near_small c.args.side c.in-Some.few c.in-Deep.middle c.both_ends.result.1 f.0 c.args.family.now c.args.whole (asked g d f.0 f.1) in
    omega (arith, n, s)

pub put_near-requires-2-clause-ask : goal.put_near-requires-2-clause-ask
put_near-requires-2-clause-ask g c =
    let d = (goal.at.put_near-requires-2-clause-ask g c).In-Some in
    let f = far g d in
    record { other = f.0; ends = near_ask (g.met.H.Heap.lawful c.read_weighed-digit.new.h) c.in-Some.few c.in-Deep.middle c.both_ends.result.1 f.0 c.args.family.now c.args.whole c.args.side (asked g d f.0 f.1) }

pub put_near-requires-2-clause-counts : goal.put_near-requires-2-clause-counts
put_near-requires-2-clause-counts g c = c.weigh_both-weight-2.ensures.size ∙ counts g (goal.at.put_near-requires-2-clause-counts g c).In-Some

pub returns : goal.returns
returns g c =
    let d = (goal.at.returns g c).In-Some in
    let law = (g.met.H.Heap.lawful c.read_weighed-digit.new.h).world in
    let p = c.put_near-2.ensures.put in
    let ask = asked g d p.other p.there in
    let w = (g.H.Heap.view c.read_weighed-digit.new.h).seen in
    let es = few_list c.read_weighed-digit.result.few in
    let put = put_level (g.met.H.Heap.lawful c.read_weighed-digit.new.h) c.in-Some.few c.in-Deep.middle c.both_ends.result.1 p.other c.args.family.now c.args.whole c.args.side ask (g.met.H.Heap.lawful c.put_near-2.new.h).world p.ends in
    let j = c.args.keyed in
    record {
      then_view = g.H.Heap.view c.read_weighed-digit.new.h;
      quiet = quiet g d;
      law = law;
      level = near_level c.args.side c.in-Some.few c.in-Deep.middle c.both_ends.result.1 p.other;
      pushed = near_pushed law c.args.side c.args.e c.args.root.0 c.in-Deep.left c.in-Deep.middle c.in-Deep.right c.in-Deep.size c.in-Deep.key (now g d) c.both_ends.result c.both_ends.ensures c.read_weighed-digit.result.few c.in-Some.few p.other (digit g d).shown (c.in-Some.ensures.longer c.in-Some.few refl) p.there;
      put = put;
      keys = λ root own whole. (
          let a = (keyed_of law j c.args.root.0 _ (now g d) root).all in
          let k = end_keys w j c.in-Deep.left c.in-Deep.right c.args.side c.both_ends.result.0 c.both_ends.result.1 c.both_ends.ensures a.0 a.1.1.0 in
          let few = digit_keys law j c.both_ends.result.0.0 c.read_weighed-digit.result.few (digit g d).shown k.0 in
          let key = more_key c.args.side j c.read_weighed-digit.result.weight.key.0 c.args.own.key.0 _ (means (recs w) c.args.e.0) (flat_map (means (recs w)) es) c.weigh_both-weight-2.ensures.key (λ is. rw is at ((digit g d).key j k.0)) (λ is. (element g d).key ∙ element_keyed law c.args.e.0 (there_later (quiet g d).grows is_element c.args.e.0 c.requires.element) (rw is at own.0)) in
          c.put_near-2.ensures.keys j (more_keyed w j c.args.side c.args.e.0 es (few_list c.in-Some.few) (c.in-Some.ensures.longer c.in-Some.few refl) own.0 few) (key ∙ ap (key_in j) (sym (more_items (means (recs w)) c.args.side c.args.e.0 es (few_list c.in-Some.few) (c.in-Some.ensures.longer c.in-Some.few refl)))) a.1.0 k.1 (whole ∙ ap (key_in j) (sym put.items)));
    }

-- ---- a full digit

-- once it is read
full_seen : (g : _) (c : After-overflowed-over g) → Full (g.H.Heap.view c.read_weighed-digit.new.h).seen c.args.side c.args.e c.args.root.0 c.in-Deep.left c.in-Deep.middle c.in-Deep.right c.both_ends.result c.read_weighed-digit.result.few c.overflowed-over.result
full_seen g c =
    let up = c.read_weighed-digit.ensures.quiet.grows in
    record {
      size = c.in-Deep.size;
      key = c.in-Deep.key;
      here = up.records _ _ (c.read.ensures.quiet.grows.records _ _ c.in-Deep.ensures.rec);
      sides = c.both_ends.ensures;
      near_at = digit_grows up _ _ c.read_weighed-digit.ensures.weighed.shown;
      overflows = c.overflowed-over.ensures;
    }

next_element : (g : _) (c : After-overflowed-over g) → holds (recs (g.H.Heap.view c.read_weighed-digit.new.h).seen) c.overflowed-over.result.next.0 is_element ≡ true
next_element g c =
    let law = g.met.H.Heap.lawful c.read_weighed-digit.new.h in
    next_there law c.args.side c.args.e c.args.root.0 c.in-Deep.left c.in-Deep.middle c.in-Deep.right c.both_ends.result c.read_weighed-digit.result.few c.overflowed-over.result (full_seen g c) c.args.family.now c.args.whole (c.requires.ask _ (Quiet_trans c.read.ensures.quiet c.read_weighed-digit.ensures.quiet) law.world)

pub weigh-next-requires : goal.weigh-next-requires
weigh-next-requires g c = next_element g (goal.at.weigh-next-requires g c).After-overflowed-over

-- and once the element is weighed that it keeps
before : (g : _) (c : After-weigh-next g) → Quiet (g.H.Heap.view c.args.h.now) (g.H.Heap.view c.weigh-next.new.h)
before g c = Quiet_trans (Quiet_trans c.read.ensures.quiet c.read_weighed-digit.ensures.quiet) c.weigh-next.ensures.quiet

full : (g : _) (c : After-weigh-next g) → Full (g.H.Heap.view c.weigh-next.new.h).seen c.args.side c.args.e c.args.root.0 c.in-Deep.left c.in-Deep.middle c.in-Deep.right c.both_ends.result c.read_weighed-digit.result.few c.overflowed-over.result
full g c =
    let up = Quiet_trans c.read_weighed-digit.ensures.quiet c.weigh-next.ensures.quiet in
    record {
      size = c.in-Deep.size;
      key = c.in-Deep.key;
      here = up.grows.records _ _ (c.read.ensures.quiet.grows.records _ _ c.in-Deep.ensures.rec);
      sides = c.both_ends.ensures;
      near_at = digit_grows up.grows _ _ c.read_weighed-digit.ensures.weighed.shown;
      overflows = c.overflowed-over.ensures;
    }

-- the level that the push makes
level_asked : (g : _) (c : After-weigh-next g) → (level : Level) → IsPushed (g.H.Heap.view c.weigh-next.new.h).seen c.args.side (pushes.One c.args.e) c.args.root.0 level → LevelAsk (g.H.Heap.view c.weigh-next.new.h) c.args.run.now level c.args.family.now c.args.whole
level_asked g c = c.requires.ask (g.H.Heap.view c.weigh-next.new.h) (before g c) (g.met.H.Heap.lawful c.weigh-next.new.h).world

pub put_push-below-requires : goal.put_push-below-requires
put_push-below-requires g c = let d = (goal.at.put_push-below-requires g c).After-weigh-next in push_ask (g.met.H.Heap.lawful c.weigh-next.new.h) c.args.side c.args.e c.args.root.0 c.in-Deep.left c.in-Deep.middle c.in-Deep.right c.both_ends.result c.read_weighed-digit.result.few c.overflowed-over.result (full g d) c.args.family.now c.args.whole (level_asked g d)

-- the two elements that the digit keeps, as they are weighed
next_weighs : (g : _) (c : After-weigh-next g) → IsWeight (g.H.Heap.view c.weigh-next.new.h).seen c.overflowed-over.result.next.0 c.weigh-next.result
next_weighs g c =
    let law = g.met.H.Heap.lawful c.read_weighed-digit.new.h in
    let up = c.read_weighed-digit.ensures.quiet.grows in
    let seen : Full (g.H.Heap.view c.read_weighed-digit.new.h).seen c.args.side c.args.e c.args.root.0 c.in-Deep.left c.in-Deep.middle c.in-Deep.right c.both_ends.result c.read_weighed-digit.result.few c.overflowed-over.result = record { size = c.in-Deep.size; key = c.in-Deep.key; here = up.records _ _ (c.read.ensures.quiet.grows.records _ _ c.in-Deep.ensures.rec); sides = c.both_ends.ensures; near_at = digit_grows up _ _ c.read_weighed-digit.ensures.weighed.shown; overflows = c.overflowed-over.ensures } in
    let there = next_there law c.args.side c.args.e c.args.root.0 c.in-Deep.left c.in-Deep.middle c.in-Deep.right c.both_ends.result c.read_weighed-digit.result.few c.overflowed-over.result seen c.args.family.now c.args.whole (c.requires.ask _ (Quiet_trans c.read.ensures.quiet c.read_weighed-digit.ensures.quiet) law.world) in
    weight_up law.world c.weigh-next.ensures.quiet.grows c.overflowed-over.result.next.0 c.weigh-next.result there c.weigh-next.ensures.weight

pushed_weighs : (g : _) (c : After-weigh-next g) → IsWeight (g.H.Heap.view c.weigh-next.new.h).seen c.args.e.0 c.args.own
pushed_weighs g c = weight_up (g.met.H.Heap.lawful c.args.h.now).world (before g c).grows c.args.e.0 c.args.own c.requires.element c.requires.weight

pushed_there : (g : _) (c : After-weigh-next g) → holds (recs (g.H.Heap.view c.weigh-next.new.h).seen) c.args.e.0 is_element ≡ true
pushed_there g c = there_later (before g c).grows is_element c.args.e.0 c.requires.element

pub weigh_both-weight-requires : goal.weigh_both-weight-requires
weigh_both-weight-requires g c = let d = (goal.at.weigh_both-weight-requires g c).After-weigh-next in both_fit (g.met.H.Heap.lawful c.weigh-next.new.h) c.args.side c.args.e c.args.root.0 c.in-Deep.left c.in-Deep.middle c.in-Deep.right c.both_ends.result c.read_weighed-digit.result.few c.overflowed-over.result (full g d) c.args.family.now c.args.whole (level_asked g d) c.weigh-next.result c.args.own (next_weighs g d) (pushed_weighs g d)

pub put_near-requires-clause-ask : goal.put_near-requires-clause-ask
put_near-requires-clause-ask g c = let d = (goal.at.put_near-requires-clause-ask g c).After-weigh-next in full_ask (g.met.H.Heap.lawful c.weigh-next.new.h) c.args.side c.args.e c.args.root.0 c.in-Deep.left c.in-Deep.middle c.in-Deep.right c.both_ends.result c.read_weighed-digit.result.few c.overflowed-over.result (full g d) c.args.family.now c.args.whole (level_asked g d) c.put_push-below.result c.put_push-below.ensures.put

pub put_near-requires-clause-counts : goal.put_near-requires-clause-counts
put_near-requires-clause-counts g c = let d = (goal.at.put_near-requires-clause-counts g c).After-weigh-next in kept_counts (g.met.H.Heap.lawful c.weigh-next.new.h) c.args.side c.args.e c.args.root.0 c.in-Deep.left c.in-Deep.middle c.in-Deep.right c.both_ends.result c.read_weighed-digit.result.few c.overflowed-over.result (full g d) c.args.family.now c.args.whole (level_asked g d) c.put_push-below.result c.put_push-below.ensures.put c.weigh-next.result c.args.own c.weigh_both-weight.result.size (next_weighs g d) (pushed_weighs g d) (pushed_there g d) c.weigh_both-weight.ensures.size

pub returns-in_default-longer : goal.returns-in_default-longer
returns-in_default-longer g c = let d = (goal.at.returns-in_default-longer g c).After-weigh-next in pushed_put (g.met.H.Heap.lawful c.weigh-next.new.h) c.args.side c.args.e c.args.root.0 c.in-Deep.left c.in-Deep.middle c.in-Deep.right c.both_ends.result c.read_weighed-digit.result.few c.overflowed-over.result (full g d) c.args.family.now c.args.whole (level_asked g d) c.put_push-below.result c.put_push-below.ensures.put (g.met.H.Heap.lawful c.put_push-below.new.h).world (g.met.H.Heap.lawful c.put_near.new.h).world c.put_near.ensures.put (before g d) c.args.keyed c.weigh-next.result c.args.own c.weigh_both-weight.result (next_weighs g d) (pushed_weighs g d) (pushed_there g d) c.weigh_both-weight.ensures.key c.put_push-below.ensures.keys c.put_near.ensures.keys
