use Rattle.std.proofs.Common.{◌≡◌, ℕ, ◌+◌, ◌<◌, ap, sym, ◌∙◌, arith, subst, true}
use Rattle.std.specs.Prelude.{slice_index}
use Rattle.lazy_rec.specs.States.{state_word, state_in_range}
use Rattle.heap_store.specs.World.{node_at}
use Rattle.word_world.specs.Words.{state_of_word, record_word_at, places_of}
use Rattle.word_store.proofs.ClosedWords.{read_at, node_past, node_none, node_some}
use Rattle.word_store.proofs.closed.ClosedStore.node.Goals as goal

pub returns-then-place-self : goal.returns-then-place-self
returns-then-place-self c = let s = c.self.inside in
    sym (node_past s.layout.nodes s.layout.rows s.words.items c.args.place.0 (omega (arith, c.if-place-self.true))) ∙ ap (λ l. node_at l.world c.args.place.0) c.self.view_is

pub returns-then-index-eq0 : goal.returns-then-index-eq0
returns-then-index-eq0 c = let s = c.self.inside in let i = c.self.invariant in let inside : c.args.place.0 < places_of s.layout.nodes = omega (arith, c.if-place-self.false) in
    let first = read_at s.words.items c.record_word-at.result c.index.result.now (omega (arith, c.record_word-at.ensures, i.0, inside)) c.index.ensures ∙ ap (slice_index s.words.items) c.record_word-at.ensures in
    sym (node_none s.layout.nodes s.layout.rows s.words.items c.args.place.0 inside (sym first ∙ c.if-index-eq0.true)) ∙ ap (λ l. node_at l.world c.args.place.0) c.self.view_is

pub state_of-state-requires-clause-range : goal.state_of-state-requires-clause-range
state_of-state-requires-clause-range c = let s = c.self.inside in let i = c.self.invariant in let inside : c.args.place.0 < places_of s.layout.nodes = omega (arith, c.if-place-self.false) in
    let n = read_at s.words.items c.state_word.result c.index-6.result.now (omega (arith, c.state_word.ensures, i.0, inside)) c.index-6.ensures ∙ ap (slice_index s.words.items) c.state_word.ensures in
    subst (λ (x : ℕ). state_in_range (state_of_word x) ≡ true) (sym n) (i.3.ranges c.args.place.0 inside)

pub state_of-state-requires-clause-word : goal.state_of-state-requires-clause-word
state_of-state-requires-clause-word c = let s = c.self.inside in let i = c.self.invariant in let inside : c.args.place.0 < places_of s.layout.nodes = omega (arith, c.if-place-self.false) in
    let n = read_at s.words.items c.state_word.result c.index-6.result.now (omega (arith, c.state_word.ensures, i.0, inside)) c.index-6.ensures ∙ ap (slice_index s.words.items) c.state_word.ensures in
    subst (λ (x : ℕ). state_word (state_of_word x) ≡ x) (sym n) (i.3.states c.args.place.0 inside)

pub returns : goal.returns
returns c = let s = c.self.inside in let i = c.self.invariant in let inside : c.args.place.0 < places_of s.layout.nodes = omega (arith, c.if-place-self.false) in
    let ws = s.words.items in let at = c.record_word-at.result in let is = c.record_word-at.ensures in
    let a = read_at ws at c.index.result.now (omega (arith, is, i.0, inside)) c.index.ensures ∙ ap (slice_index ws) is in
    let a2 = read_at ws at c.index-2.result.now (omega (arith, is, i.0, inside)) c.index-2.ensures ∙ ap (slice_index ws) is in
    let b = read_at ws _ c.index-3.result.now (omega (arith, is, i.0, inside)) c.index-3.ensures ∙ ap (slice_index ws) {x = at + 1} {y = record_word_at c.args.place.0 1} (omega (arith, is)) in
    let d = read_at ws _ c.index-4.result.now (omega (arith, is, i.0, inside)) c.index-4.ensures ∙ ap (slice_index ws) {x = at + 2} {y = record_word_at c.args.place.0 2} (omega (arith, is)) in
    let e = read_at ws _ c.index-5.result.now (omega (arith, is, i.0, inside)) c.index-5.ensures ∙ ap (slice_index ws) {x = at + 3} {y = record_word_at c.args.place.0 3} (omega (arith, is)) in
    let n = read_at ws c.state_word.result c.index-6.result.now (omega (arith, c.state_word.ensures, i.0, inside)) c.index-6.ensures ∙ ap (slice_index ws) c.state_word.ensures in
    sym (node_some s.layout.nodes s.layout.rows ws c.args.place.0 inside c.index-2.result.now c.index-3.result.now c.index-4.result.now c.index-5.result.now c.index-6.result.now c.decode-rec.result c.state_of-state.result
    a2 b d e n (λ z. c.if-index-eq0.false (a ∙ (sym a2 ∙ z))) c.decode-rec.ensures.shown c.state_of-state.ensures) ∙ ap (λ l. node_at l.world c.args.place.0) c.self.view_is
