-- What the steps on claims come to, as views.
use Rattle.std.proofs.Common.{◌≡◌, ℕ, ◌+◌, ◌<◌, ◌≤◌, List, length, refl, sym, ap, ap₂, ◌∙◌, arith, subst, true, false, eqb, Option, Some, None, bit_or}
use Rattle.std.specs.Prelude.{slice_index, slice_set, min, option_map, option_and_then}
use Rattle.std.proofs.lemmas.Bool.{true≢false}
use Rattle.std.proofs.lemmas.List.{set-get_or, get_or-set_other}
use mathlib.Core.Option.{none}
use Rattle.atomic_table.specs.Table.{step}
use Rattle.lazy_rec.specs.declared.places.Ref.{Ref}
use Rattle.lazy_rec.specs.declared.records.Rec.{Rec}
use Rattle.lazy_rec.specs.declared.states.SuspState.{SuspState}
use Rattle.lazy_rec.specs.declared.states.SuspState.TheVariants.{Unforced, Claimed, Done}
use Rattle.lazy_rec.specs.Named.{is_pending}
use Rattle.lazy_rec.specs.Tests.{is_some_and}
use Rattle.lazy_rec.specs.States.{state_word, state_in_range, is_unforced, is_claimed, given_up, kept}
use Rattle.heap_store.specs.declared.nodes.Node.{Node}
use Rattle.heap_store.specs.declared.claims.Full.{Full}
use Rattle.heap_store.specs.World.{World, recs, node_at, state_at, show, holds}
use Rattle.heap_store.specs.Hand.{Hand, holds_claim, is_unbuilt, places_of_steps, hand_completed, hand_given_up}
use Rattle.heap_store.specs.Lawful.{IsDoneWell}
use Rattle.heap_store.specs.View.{View, Quiet, Completed, GivenUp, MayComplete, IsWon, IsFoundDone, IsFoundClaimed, SameRows, unforced}
use Rattle.heap_store.proofs.GrowthLaws.{grows_trans, at_true, done_by_state}
use Rattle.heap_store.proofs.Steps.{words_trans, alone_of}
use Rattle.heap_store.proofs.ShowLaws.{one_value}
use Rattle.heap_store.proofs.LawfulLaws.{lawful_names, done_there}
use Rattle.heap_store.proofs.RecordLaws.{done_well_up}
use Rattle.heap_store.proofs.PlainReads.{unbuilt_held}
use Rattle.heap_store.proofs.PlainSteps.{won, completed, state_small, claimed_fits, done_fits, unforced_fits}
use Rattle.word_world.specs.Words.{state_word_at, places_of, state_of_word, node_of_words}
use Rattle.word_world.proofs.Tables.{length-tabulate}
use Rattle.word_world.proofs.Worlds.{claim_word, other_word, node_state, word_state}
use Rattle.word_world.proofs.WordSteps.{changed_world}
use Rattle.word_store.specs.declared.sight.Sight.{Sight}
use Rattle.word_store.specs.declared.pass.Pass.{Pass}
use Rattle.word_store.specs.Rule.{seen_by}
use Rattle.word_store.specs.Sound.{IsSound}
use Rattle.word_store.specs.Views.{view_with}
use Rattle.word_store.specs.Claims.{MaySpend}
use Rattle.word_store.specs.Plays.{Looked, Tried, Spent, sight_after, spent_hand}
use Rattle.word_store.specs.Passes.{view_of, Stays, slots_of}
use Rattle.word_store.proofs.Views.{alone_is}
use Rattle.word_store.proofs.HandLaws.{claim_node}
use Rattle.word_store.proofs.PassSteps.{one_of}
use Rattle.word_store.proofs.PassReads.{published_within, test_within}
use Rattle.word_store.proofs.PassViews.{same_about, exact, seen_is, drawn_is, named_is, own_drawn, own_named}

-- ---- a claim is tried

module _ (p q : Pass) (s : Ref) (x : ℕ) (k : Tried (step (slots_of p) (state_word_at s.0) 1 0 none) p.seat.me x q.seat.me) (st : Stays p q) (pending : holds (recs (seen_by p.seat.me.0)) s.0 is_pending ≡ true) where
  abbrev v : Sight
  v = p.seat.me.0

  abbrev after : List ℕ
  after = slice_set p.seat.me.0.words (state_word_at s.0) (bit_or x 1)

  there : (r : Rec) × (recs (seen_by p.seat.me.0) s.0 ≡ Some r) × (is_pending r ≡ true)
  there = at_true is_pending (recs (seen_by p.seat.me.0) s.0) pending

  inside : s.0 < places_of p.seat.me.0.nodes
  inside = test_within p.seat.me.0 s.0 is_pending pending

  in_list : s.0 < length (seen_by p.seat.me.0).nodes
  in_list = omega (arith, inside, length-tabulate (node_of_words v.words) 0 (places_of v.nodes))

  -- where alone, what was seen is what was found
  found_node : eqb p.seat.me.0.callers 1 ≡ true → node_at (seen_by p.seat.me.0) s.0 ≡ Some (record { rec = there.0; state = state_of_word x })
  found_node e = go (node_at (seen_by v) s.0) refl there.1
    where
      go : (o : Option Node) → node_at (seen_by p.seat.me.0) s.0 ≡ o → option_map (λ (m : Node). m.rec) o ≡ Some there.0 → node_at (seen_by p.seat.me.0) s.0 ≡ Some (record { rec = there.0; state = state_of_word x })
      go None h g = cc
      go (Some m) h g = h ∙ ap₂ (λ a b. Some (record { rec = a; state = b })) (one_value m.rec there.0 g) (node_state v.nodes v.rows v.words s.0 m inside h ∙ ap state_of_word (k.before (one_of p ∙ sym (alone_is v e))))

  same_drawn : eqb p.seat.me.0.callers 1 ≡ true → (view_of q).drawn ≡ (view_of p).drawn
  same_drawn e = drawn_is p after q.seat.me k.goes q.caller q.refused q.last q.drawn q.named e ∙ (get_or-set_other v.words (state_word_at s.0) 0 (bit_or x 1) 0 (λ z. omega (arith, z)) ∙ sym (own_drawn p e))

  same_named : eqb p.seat.me.0.callers 1 ≡ true → (view_of q).named ≡ (view_of p).named
  same_named e = named_is p after q.seat.me k.goes q.caller q.refused q.last q.drawn q.named e ∙ (get_or-set_other v.words (state_word_at s.0) 1 (bit_or x 1) 0 (λ z. omega (arith, z)) ∙ sym (own_named p e))

  about_kept : (view_of q).about ≡ (view_of p).about
  about_kept = same_about p after q.seat.me k.goes q.caller q.refused q.last q.drawn q.named st.caller

  pub won_view : (g : ℕ) → state_of_word x ≡ Unforced g → IsWon (view_of p) (view_of q) s
  won_view g is =
      let small : g < 65536 = state_small (Unforced g) (ap state_in_range (sym is) ∙ k.proper.0) in
      let word : bit_or x 1 ≡ state_word (Claimed g) = claim_word x g is k.proper.1 small in
      let node : eqb v.callers 1 ≡ true → node_at (seen_by v) s.0 ≡ Some (record { rec = there.0; state = Unforced g }) = λ e. found_node e ∙ ap (λ z. Some (record { rec = there.0; state = z })) is in
      let seen : eqb v.callers 1 ≡ true → seen_by q.seat.me.0 ≡ show (seen_by v) s.0 there.0 (Claimed g) = λ e. seen_is p after q.seat.me k.goes e
      ∙ (ap (λ y. seen_by (record v { words = slice_set v.words (state_word_at s.0) y })) word
      ∙ changed_world v.nodes v.rows v.plan v.words p.sound.wide p.sound.well s.0 there.0 (Unforced g) (Claimed g) inside (node e) (claimed_fits g small)) in
      record {
        grows = k.goes.grows;
        words = k.kept;
        hand = k.won s refl (ap is_unforced is);
        refusals = ap₂ (λ (n : ℕ) (f : Full). record { count = n; last = f }) st.refused st.last;
        about = about_kept;
        alone = λ e. (let w = (won (view_of p) s there.0 g in_list (node e) there.2).alone e in
            (record { rows = ap (λ (w : World). w.rows) (seen e); named = same_named e }, same_drawn e, ap (λ n. n + 1) (ap unforced (seen e)) ∙ w.2));
        shown = λ e. (there.0, g, ap (option_map (λ (n : Node). n.state)) (node e), seen e);
      }

  -- it wasn't unforced
  pub lost_quiet : is_unforced (state_of_word x) ≡ false → Quiet (view_of p) (view_of q)
  lost_quiet free = record {
    grows = k.goes.grows;
    words = k.kept;
    hand = (k.lost s.0 refl free).0;
    refusals = ap₂ (λ (n : ℕ) (f : Full). record { count = n; last = f }) st.refused st.last;
    about = about_kept;
    alone = λ e. ap (λ v. view_with v q.caller q.refused q.last q.drawn q.named) k.goes.is ∙ same (exact p after q.seat.me k.goes e ∙ unchanged e) (k.lost s.0 refl free).0 st.caller st.refused st.last st.drawn st.named;
  }
    where
      unchanged : eqb p.seat.me.0.callers 1 ≡ true → slice_set p.seat.me.0.words (state_word_at s.0) (bit_or x 1) ≡ p.seat.me.0.words
      unchanged e = ap (slice_set v.words (state_word_at s.0)) (other_word x free k.proper.1 ∙ sym (k.before (one_of p ∙ sym (alone_is v e)))) ∙ set-get_or v.words (state_word_at s.0) 0

      same : {ws : List ℕ} {h : Hand} {c r : ℕ} {l : Full} {d m : ℕ} → ws ≡ p.seat.me.0.words → h ≡ p.seat.me.0.hand → c ≡ p.caller → r ≡ p.refused → l ≡ p.last → d ≡ p.drawn → m ≡ p.named
          → view_with (sight_after p.seat.me.0 ws h q.seat.me.0.wasted) c r l d m ≡ view_of p
      same e0 e1 e2 e3 e4 e5 e6 = rw (e0, e1, e2, e3, e4, e5, e6) refl

  lost_state : is_unforced (state_of_word x) ≡ false → state_at (seen_by q.seat.me.0) s.0 ≡ Some (state_of_word x)
  lost_state free = (k.lost s.0 refl free).1

  pub found_done : (place : Ref) (steps g : ℕ) → state_of_word x ≡ Done place steps g → IsFoundDone (view_of p) (view_of q) s.0 place.0
  found_done place steps g is = record {
    quiet = lost_quiet (ap is_unforced is);
    steps = steps;
    done = done_by_state (seen_by q.seat.me.0) s.0 ∙ ap (option_and_then kept) (lost_state (ap is_unforced is) ∙ ap Some is);
  }

  pub found_claimed : (g : ℕ) → state_of_word x ≡ Claimed g → IsFoundClaimed (view_of p) (view_of q) s.0
  found_claimed g is = record {
    quiet = lost_quiet (ap is_unforced is);
    claimed = claimed (node_at (seen_by q.seat.me.0) s.0) (lost_state (ap is_unforced is) ∙ ap Some is);
  }
    where
      claimed : (o : Option Node) → option_map (λ (n : Node). n.state) o ≡ Some (Claimed g) → is_some_and (λ (n : Node). is_claimed n.state) o ≡ true
      claimed None e = cc
      claimed (Some n) e = ap is_claimed (one_value n.state (Claimed g) e)

-- ---- a claim in hand

pub record HeldState (v : Sight) (p : ℕ) : Type 0 where
  pub count : ℕ
  pub rec : Rec
  pub node : node_at (seen_by v) p ≡ Some (record { rec = rec; state = Claimed count })
  pub here : recs (seen_by v) p ≡ Some rec
  pub inside : p < places_of v.nodes
  pub word : state_of_word (slice_index v.words (state_word_at p)) ≡ Claimed count
  pub state : state_at (seen_by v) p ≡ Some (Claimed count)

claimed_is : (s : SuspState) → is_claimed s ≡ true → (g : ℕ) × (s ≡ Claimed g)
claimed_is (Unforced g) e = absurd (true≢false (sym e))
claimed_is (Claimed g) e = (g, refl)
claimed_is (Done a b c) e = absurd (true≢false (sym e))

-- what the words of a claim in hand show
pub held_state : (v : Sight) (p : ℕ) → IsSound v → holds_claim v.hand p ≡ true → HeldState v p
held_state v p s h =
    let t = claim_node (seen_by v) v.hand s.hand p h in let m = t.0 in let g = claimed_is m.state t.2 in
    let here : recs (seen_by v) p ≡ Some m.rec = ap (option_map (λ (n : Node). n.rec)) t.1 in
    let inside = published_within v p m.rec here in
    record {
      count = g.0;
      rec = m.rec;
      node = t.1 ∙ ap (λ z. Some (record { rec = m.rec; state = z })) g.1;
      here = here;
      inside = inside;
      word = sym (node_state v.nodes v.rows v.words p m inside t.1) ∙ g.1;
      state = ap (option_map (λ (n : Node). n.state)) t.1 ∙ ap Some g.1;
    }

claimed_same : (g h : ℕ) → Claimed g ≡ Claimed h → g ≡ h
claimed_same g h e = cc

pub some_claimed : (g h : ℕ) → Some (Claimed g) ≡ Some (Claimed h) → g ≡ h
some_claimed g h e = claimed_same g h (one_value (Claimed g) (Claimed h) e)

-- a load of the state of a claim in hand
module _ (p q : Pass) (s n : ℕ) (k : Looked (step (slots_of p) (state_word_at s) 0 0 none) p.seat.me n q.seat.me) (held : holds_claim p.seat.me.0.hand s ≡ true) where
  pub held_after : holds_claim q.seat.me.0.hand s ≡ true
  held_after = ap (λ h. holds_claim h s) k.hand ∙ held

  pub found : HeldState q.seat.me.0 s
  found = held_state q.seat.me.0 s q.sound held_after

  pub found_word : state_of_word n ≡ Claimed found.count
  found_word = ap state_of_word k.found ∙ found.word

  pub found_before : (g : ℕ) → state_of_word n ≡ Claimed g → state_at (seen_by p.seat.me.0) s ≡ Some (Claimed g)
  found_before g e = let b = held_state p.seat.me.0 s p.sound held in
      b.state ∙ ap (λ z. Some (Claimed z)) (claimed_same b.count g (sym b.word ∙ (ap state_of_word (sym (k.held s held)) ∙ (ap state_of_word (sym k.found) ∙ e))))

  pub found_now : (g : ℕ) → state_of_word n ≡ Claimed g → state_at (seen_by q.seat.me.0) s ≡ Some (Claimed g)
  found_now g e = found.state ∙ ap (λ z. Some (Claimed z)) (claimed_same found.count g (sym found_word ∙ e))

-- ---- a claim is spent

-- a completion may spend the claim
pub complete_may : (p q : Pass) (s : ℕ) (place : Ref) (steps g : ℕ) → Quiet (view_of p) (view_of q) → holds_claim p.seat.me.0.hand s ≡ true → state_at (seen_by q.seat.me.0) s ≡ Some (Claimed g) → g < 65536 → steps < 4194304
    → MayComplete (seen_by p.seat.me.0) s place.0 steps → MaySpend q.seat.me.0 s (Done place steps g)
complete_may p q s place steps g quiet held now small few may =
    let h = held_state q.seat.me.0 s q.sound (ap (λ x. holds_claim x s) quiet.hand ∙ held) in
    let b = held_state p.seat.me.0 s p.sound held in
    let a = seen_by p.seat.me.0 in let w = seen_by q.seat.me.0 in
    let r-is : b.rec ≡ h.rec = one_value b.rec h.rec (sym (quiet.grows.records s b.rec b.here) ∙ h.here) in
    let well : (r : Rec) → recs w s ≡ Some r → IsDoneWell w s r (place.0, steps) = λ r e.
    (let same-r : r ≡ b.rec = one_value r b.rec (sym e ∙ (h.here ∙ ap Some (sym r-is))) in
    rw same-r (done_well_up a w (lawful_names p.sound.well.world) quiet.grows (done_there p.sound.well.world) s b.rec (place.0, steps) b.here (may b.rec b.here))) in
    let value = at_true _ (recs a place.0) (may b.rec b.here).value in
    let low : place.0 < 4194304 = omega (arith, published_within p.seat.me.0 place.0 value.0 value.1, p.sound.small.0) in
    record {
      range = done_fits place steps g low few small;
      free = refl;
      rec = h.rec;
      here = h.here;
      more = omega (arith, ap given_up h.word, some_claimed h.count g (sym h.state ∙ now));
      done = λ d e. subst (λ (z : ℕ × ℕ). MayComplete w s z.0 z.1) (one_value (place.0, steps) d e) well;
      unbuilt = λ e. cc;
      places = λ e. cc;
    }

-- so may a claim that is given back
pub give_up_may : (p q : Pass) (s g n : ℕ) → Quiet (view_of p) (view_of q) → state_at (seen_by q.seat.me.0) s ≡ Some (Claimed g) → g < 65536 → n ≡ min (g + 1) 65535
    → is_unbuilt p.seat.me.0.hand s ≡ true → places_of_steps (recs (seen_by p.seat.me.0)) s ≤ p.seat.me.0.hand.allowance → MaySpend q.seat.me.0 s (Unforced n)
give_up_may p q s g n quiet now small is unbuilt fits =
    let held = unbuilt_held p.seat.me.0.hand.claims s unbuilt in
    let h = held_state q.seat.me.0 s q.sound (ap (λ x. holds_claim x s) quiet.hand ∙ held) in
    let b = held_state p.seat.me.0 s p.sound held in
    let same : recs (seen_by q.seat.me.0) s ≡ recs (seen_by p.seat.me.0) s = quiet.grows.records s b.rec b.here ∙ sym b.here in
    record {
      range = unforced_fits n (omega (arith, is));
      free = refl;
      rec = h.rec;
      here = h.here;
      more = omega (arith, ap given_up h.word, some_claimed h.count g (sym h.state ∙ now), is, small);
      done = λ d e. cc;
      unbuilt = λ e. ap (λ x. is_unbuilt x s) quiet.hand ∙ unbuilt;
      places = λ e. omega (arith, fits, ap (λ o. places_of_steps (λ _. o) s) same, ap (λ (x : Hand). x.allowance) quiet.hand);
    }

module _ (q r : Pass) (s : ℕ) (new : SuspState) (k : Spent (step (slots_of q) (state_word_at s) (state_word new) 0 none) q.seat.me (state_word new) r.seat.me) (st : Stays q r) (held : holds_claim q.seat.me.0.hand s ≡ true) (range : state_in_range new ≡ true) where
  abbrev u : Sight
  u = q.seat.me.0

  abbrev later : List ℕ
  later = slice_set q.seat.me.0.words (state_word_at s) (state_word new)

  pub h : HeldState q.seat.me.0 s
  h = held_state q.seat.me.0 s q.sound held

  at_place : s < length (seen_by q.seat.me.0).nodes
  at_place = omega (arith, h.inside, length-tabulate (node_of_words u.words) 0 (places_of u.nodes))

  pub spent_is : state_at (seen_by r.seat.me.0) s ≡ Some new
  spent_is = k.state s refl ∙ ap Some (word_state new range)

  pub spent_hand_is : r.seat.me.0.hand ≡ spent_hand (recs (seen_by q.seat.me.0)) q.seat.me.0.hand s new
  spent_hand_is = k.hand s refl ∙ ap (spent_hand (recs (seen_by u)) u.hand s) (word_state new range)

  spent_seen : eqb q.seat.me.0.callers 1 ≡ true → seen_by r.seat.me.0 ≡ show (seen_by q.seat.me.0) s h.rec new
  spent_seen e = seen_is q later r.seat.me k.goes e ∙ changed_world u.nodes u.rows u.plan u.words q.sound.wide q.sound.well s h.rec (Claimed h.count) new h.inside h.node range

  spent_drawn : eqb q.seat.me.0.callers 1 ≡ true → (view_of r).drawn ≡ (view_of q).drawn
  spent_drawn e = drawn_is q later r.seat.me k.goes r.caller r.refused r.last r.drawn r.named e ∙ (get_or-set_other u.words (state_word_at s) 0 (state_word new) 0 (λ z. omega (arith, z)) ∙ sym (own_drawn q e))

  spent_named : eqb q.seat.me.0.callers 1 ≡ true → (view_of r).named ≡ (view_of q).named
  spent_named e = named_is q later r.seat.me k.goes r.caller r.refused r.last r.drawn r.named e ∙ (get_or-set_other u.words (state_word_at s) 1 (state_word new) 0 (λ z. omega (arith, z)) ∙ sym (own_named q e))

  pub completed_view : (place : Ref) (steps g : ℕ) → new ≡ Done place steps g → g ≡ h.count → Completed (view_of q) (view_of r) s place.0 steps
  completed_view place steps g is count =
      let same : new ≡ Done place steps h.count = is ∙ ap (Done place steps) count in
      record {
        grows = k.goes.grows;
        words = k.kept;
        done = done_by_state (seen_by r.seat.me.0) s ∙ ap (option_and_then kept) (spent_is ∙ ap Some is);
        hand = spent_hand_is ∙ ap (spent_hand (recs (seen_by u)) u.hand s) is;
        refusals = ap₂ (λ (n : ℕ) (f : Full). record { count = n; last = f }) st.refused st.last;
        about = same_about q later r.seat.me k.goes r.caller r.refused r.last r.drawn r.named st.caller;
        alone = λ e. (let c = (completed (view_of q) s h.rec h.count place steps at_place h.node).alone e in
            let seen = spent_seen e ∙ ap (show (seen_by u) s h.rec) same in
            (record { rows = ap (λ (w : World). w.rows) seen; named = spent_named e }, spent_drawn e, ap unforced seen ∙ c.2));
        shown = λ e. (h.rec, h.count, h.state, spent_seen e ∙ ap (show (seen_by u) s h.rec) same);
      }

  pub given_up_view : (n : ℕ) → new ≡ Unforced n → n ≡ min (h.count + 1) 65535 → GivenUp (view_of q) (view_of r) s
  given_up_view n is raised =
      let same : new ≡ Unforced (min (h.count + 1) 65535) = is ∙ ap Unforced raised in
      record {
        grows = k.goes.grows;
        words = k.kept;
        state = λ g' e. spent_is ∙ ap Some (same ∙ ap (λ z. Unforced (min (z + 1) 65535)) (some_claimed h.count g' (sym h.state ∙ e)));
        hand = spent_hand_is ∙ ap (spent_hand (recs (seen_by u)) u.hand s) is;
        refusals = ap₂ (λ (n : ℕ) (f : Full). record { count = n; last = f }) st.refused st.last;
        about = same_about q later r.seat.me k.goes r.caller r.refused r.last r.drawn r.named st.caller;
        alone = λ e. (record { rows = ap (λ (w : World). w.rows) (spent_seen e); named = spent_named e }, spent_drawn e);
        shown = λ e. (h.rec, h.count, h.state, spent_seen e ∙ ap (show (seen_by u) s h.rec) same);
      }

-- after a load
pub quiet_completed : (a b c : View) (s place steps : ℕ) → Quiet a b → recs b.seen s ≡ recs a.seen s → Completed b c s place steps → Completed a c s place steps
quiet_completed a b c s place steps q same f = record {
  grows = grows_trans q.grows f.grows;
  words = words_trans a.hand b.hand a.seen b.seen c.seen (ap (λ (h : Hand). h.names) q.hand) q.words f.words;
  done = f.done;
  hand = f.hand ∙ (ap (λ o. hand_completed (λ _. o) b.hand s) same ∙ ap (λ h. hand_completed (recs a.seen) h s) q.hand);
  refusals = f.refusals ∙ q.refusals;
  about = f.about ∙ q.about;
  alone = λ e. subst (λ (v : View). SameRows v c × (c.drawn ≡ v.drawn) × (unforced c.seen ≡ unforced v.seen)) (q.alone e) (f.alone (alone_of a b q.about e));
  shown = λ e. subst (λ (v : View). (r : Rec) × (g : ℕ) × (state_at v.seen s ≡ Some (Claimed g)) × (c.seen ≡ show v.seen s r (Done (record { 0 = place }) steps g))) (q.alone e) (f.shown (alone_of a b q.about e));
}

pub quiet_given_up : (a b c : View) (s : ℕ) → Quiet a b → recs b.seen s ≡ recs a.seen s → ((g : ℕ) → state_at a.seen s ≡ Some (Claimed g) → state_at b.seen s ≡ Some (Claimed g)) → GivenUp b c s → GivenUp a c s
quiet_given_up a b c s q same states f = record {
  grows = grows_trans q.grows f.grows;
  words = words_trans a.hand b.hand a.seen b.seen c.seen (ap (λ (h : Hand). h.names) q.hand) q.words f.words;
  state = λ g e. f.state g (states g e);
  hand = f.hand ∙ (ap (λ o. hand_given_up (λ _. o) b.hand s) same ∙ ap (λ h. hand_given_up (recs a.seen) h s) q.hand);
  refusals = f.refusals ∙ q.refusals;
  about = f.about ∙ q.about;
  alone = λ e. subst (λ (v : View). SameRows v c × (c.drawn ≡ v.drawn)) (q.alone e) (f.alone (alone_of a b q.about e));
  shown = λ e. subst (λ (v : View). (r : Rec) × (g : ℕ) × (state_at v.seen s ≡ Some (Claimed g)) × (c.seen ≡ show v.seen s r (Unforced (min (g + 1) 65535)))) (q.alone e) (f.shown (alone_of a b q.about e));
}

-- a claim in hand was seen
pub held_rec : (p q : Pass) (s : ℕ) → Quiet (view_of p) (view_of q) → holds_claim p.seat.me.0.hand s ≡ true → recs (seen_by q.seat.me.0) s ≡ recs (seen_by p.seat.me.0) s
held_rec p q s quiet held = let b = held_state p.seat.me.0 s p.sound held in quiet.grows.records s b.rec b.here ∙ sym b.here
