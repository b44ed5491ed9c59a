-- What a step leaves of a pass.
use Rattle.std.proofs.Common.{◌≡◌, ℕ, zero, suc, ◌<◌, ◌≤◌, List, [], ◌∷◌, length, refl, sym, ap, ◌∙◌, arith, subst, true}
use Rattle.std.specs.Prelude.{slice_index, slice_set}
use Rattle.std.proofs.lemmas.Bool.{true≢false}
use Rattle.std.proofs.lemmas.List.{get_or-set_other, length-set}
use Rattle.heap_store.specs.World.{recs, is_published, is_claimed_at}
use Rattle.heap_store.specs.Rows.{row_at, is_ended_at}
use Rattle.heap_store.specs.Hand.{IsLawfulHand, contains}
use Rattle.heap_store.specs.Budget.{IsInBudget}
use Rattle.heap_store.specs.View.{IsLawfulView, IsRefusal, published_count}
use Rattle.word_world.specs.Words.{record_word_at, state_word_at}
use Rattle.word_world.proofs.Worlds.{fill_world, well_same}
use Rattle.word_store.specs.declared.sight.Sight.{Sight}
use Rattle.word_store.specs.declared.pass.Pass.{Pass}
use Rattle.word_store.specs.Rule.{seen_by, KnowsRows}
use Rattle.word_store.specs.Sound.{IsSound}
use Rattle.word_store.specs.Views.{view_with}
use Rattle.word_store.specs.Plays.{Sat, Goes}
use Rattle.word_store.proofs.Views.{view_lawful}

pub rights_of : (p : Pass) → 0 < length p.seat.me.0.numbers
rights_of p = omega (arith, ap length p.number)

pub one_of : (p : Pass) → length p.seat.me.0.numbers ≡ 1
one_of p = ap length p.number

module _ (p : Pass) (after : List ℕ) (n : Sat) (g : Goes after p.seat.me n) where
  pub same_sizes : (n.0.nodes ≡ p.layout.nodes) × (n.0.rows ≡ p.layout.rows)
  same_sizes = (ap (λ (v : Sight). v.nodes) g.is ∙ p.sized.0, ap (λ (v : Sight). v.rows) g.is ∙ p.sized.1)

  pub same_number : n.0.numbers ≡ p.caller ∷ []
  same_number = ap (λ (v : Sight). v.numbers) g.is ∙ p.number

  pub same_law : IsLawfulView (view_with n.0 p.caller p.refused p.last p.drawn p.named)
  same_law = view_lawful n.0 p.caller p.refused p.last p.drawn p.named same_number g.sound (λ some. subst (λ m. IsRefusal m p.last) (ap (λ (v : Sight). v.nodes) (sym g.is)) (p.law.refused some))

-- ---- a filled word

module _ (p : Pass) (place j w x : ℕ) (held : contains p.seat.me.0.hand.reserved place ≡ true) (low : 0 < j) (high : j < 4) (is : w ≡ record_word_at place j) (n : Sight) (filled : n ≡ record p.seat.me.0 { words = slice_set p.seat.me.0.words w x }) where
  abbrev v : Sight
  v = p.seat.me.0

  abbrev vs : List ℕ
  vs = slice_set p.seat.me.0.words (record_word_at place j) x

  -- it shows the same world
  pub filled_world : seen_by (record p.seat.me.0 { words = slice_set p.seat.me.0.words (record_word_at place j) x }) ≡ seen_by p.seat.me.0
  filled_world = fill_world v.nodes v.rows v.words place j x (p.sound.reserved_low place held).1 low high (p.sound.hand.reserved place held)

  other : (i : ℕ) → (i ≡ record_word_at place j → ⊥) → slice_index (slice_set p.seat.me.0.words (record_word_at place j) x) i ≡ slice_index p.seat.me.0.words i
  other i ne = get_or-set_other v.words (record_word_at place j) i x 0 ne

  sound_here : IsSound (record p.seat.me.0 { words = slice_set p.seat.me.0.words (record_word_at place j) x })
  sound_here =
      let s = p.sound in let now = filled_world in
      let word0 : slice_index vs 0 ≡ slice_index v.words 0 = other 0 (λ z. omega (arith, z)) in
      let word1 : slice_index vs 1 ≡ slice_index v.words 1 = other 1 (λ z. omega (arith, z)) in
      record {
        small = s.small;
        wide = length-set v.words (record_word_at place j) x ∙ s.wide;
        well = well_same v.nodes v.rows v.plan vs v.words now
            (λ q there i few. other (record_word_at q i) (λ z. (let eq : q ≡ place = omega (arith, z, few, high) in true≢false (sym there ∙ (ap (is_published (recs (seen_by v))) eq ∙ s.hand.reserved place held)))))
            (λ q. other (state_word_at q) (λ z. omega (arith, z, high))) (omega (arith, word1)) s.well;
        hand = subst (λ y. IsLawfulHand y v.hand) (sym now) s.hand;
        works = s.works;
        mine = subst (λ y. KnowsRows y v.numbers v.hand) (sym now) s.mine;
        reserved_low = s.reserved_low;
        names_low = λ i had. (let l = s.names_low i had in (l.0, omega (arith, l.1, word1)));
        told = s.told;
        low = omega (arith, s.low, word0);
        vain = λ some. (let l = s.vain some in omega (arith, l, word0));
        alone = λ one. (let a = s.alone one in record {
          drawn = omega (arith, a.drawn, ap published_count now, word0);
          room = omega (arith, a.room, word0);
          claims = λ q c. a.claims q (ap (λ y. is_claimed_at y q) (sym now) ∙ c);
          rows = omega (arith, a.rows, word1);
          names = λ i l e. a.names i (omega (arith, l, word1)) (ap (λ y. is_ended_at (row_at y) (suc i)) (sym now) ∙ e);
          vain = a.vain;
          budget = subst (λ y. IsInBudget (record { world = y; hands = v.hand ∷ []; plan = v.plan })) (sym now) a.budget;
        });
      }

  whole : n ≡ record p.seat.me.0 { words = slice_set p.seat.me.0.words (record_word_at place j) x }
  whole = filled ∙ ap (λ i. record v { words = slice_set v.words i x }) is

  pub filled_sound : IsSound n
  filled_sound = subst IsSound (sym whole) sound_here

  pub filled_law : IsLawfulView (view_with n p.caller p.refused p.last p.drawn p.named)
  filled_law = subst (λ u. IsLawfulView (view_with u p.caller p.refused p.last p.drawn p.named)) (sym whole) (view_lawful (record v { words = vs }) p.caller p.refused p.last p.drawn p.named p.number sound_here p.law.refused)

-- a name is one above its row
pub name_row : (name : ℕ) → 1 ≤ name → (i : ℕ) × (name ≡ suc i)
name_row zero low = absurd (omega arith)
name_row (suc i) low = (i, refl)
