use Rattle.std.proofs.Common.{◌≡◌, sym, ap, ◌∙◌, arith, subst, Some, true}
use Rattle.lazy_rec.specs.Named.{is_pending}
use Rattle.lazy_rec.specs.States.{state_word, state_in_range}
use Rattle.heap_store.specs.World.{recs}
use Rattle.heap_store.proofs.GrowthLaws.{at_true}
use Rattle.word_world.specs.Words.{state_of_word}
use Rattle.word_store.specs.Rule.{seen_by}
use Rattle.word_store.specs.Passes.{sight_of}
use Rattle.word_store.proofs.PassReads.{test_within, published_within, state_read}
use Rattle.word_store.proofs.PassViews.{looked_quiet}
use Rattle.std.specs.Prelude.{slice_index}
use Rattle.word_store.proofs.heap.PassHeap.state.Goals as goal

pub look-requires : goal.look-requires
look-requires c = let p = c.args.self.now in omega (arith, test_within (sight_of p) c.args.s.0 is_pending c.requires, p.sized.0, c.state_word.ensures)

pub state_of-requires-clause-range : goal.state_of-requires-clause-range
state_of-requires-clause-range c = let p = c.args.self.now in let q = c.look.new.self in
    let t = at_true is_pending (recs (seen_by (sight_of p)) c.args.s.0) c.requires in
    let l = published_within (sight_of q) c.args.s.0 t.0 (c.look.ensures.play.goes.grows.records c.args.s.0 t.0 t.1) in
    let at = c.look.ensures.play.found ∙ ap (slice_index q.seat.me.0.words) c.state_word.ensures in
    subst (λ n. state_in_range (state_of_word n) ≡ true) (sym at) (q.sound.well.ranges c.args.s.0 l)

pub state_of-requires-clause-word : goal.state_of-requires-clause-word
state_of-requires-clause-word c = let p = c.args.self.now in let q = c.look.new.self in
    let t = at_true is_pending (recs (seen_by (sight_of p)) c.args.s.0) c.requires in
    let l = published_within (sight_of q) c.args.s.0 t.0 (c.look.ensures.play.goes.grows.records c.args.s.0 t.0 t.1) in
    let at = c.look.ensures.play.found ∙ ap (slice_index q.seat.me.0.words) c.state_word.ensures in
    subst (λ n. state_word (state_of_word n) ≡ n) (sym at) (q.sound.well.states c.args.s.0 l)

pub returns-clause-quiet : goal.returns-clause-quiet
returns-clause-quiet c = looked_quiet c.args.self.now c.look.new.self _ c.look.result c.look.ensures.play c.look.ensures.stays

pub returns-clause-state : goal.returns-clause-state
returns-clause-state c = let p = c.args.self.now in let q = c.look.new.self in
    let t = at_true is_pending (recs (seen_by (sight_of p)) c.args.s.0) c.requires in
    let at = c.look.ensures.play.found ∙ ap (slice_index q.seat.me.0.words) c.state_word.ensures in
    state_read (sight_of q) c.args.s.0 t.0 (c.look.ensures.play.goes.grows.records c.args.s.0 t.0 t.1) c.look.result at ∙ ap Some (sym c.state_of.ensures)
