-- Rows as a closed book tells them: which are given up, their names, and their lines.
use Rattle.std.proofs.Common.{◌≡◌, ℕ, suc, ◌+◌, Bool, true, false, not, ◌||◌, Option, Some, None, List, ◌++◌, refl, sym, ap, ◌∙◌, codes, decimal, arith}
use Rattle.std.specs.Prelude.{option_map}
use Rattle.lazy_rec.specs.Tests.{is_some_and}
use Rattle.heap_store.specs.World.{World}
use Rattle.heap_store.specs.Rows.{Row, Ending, not_ended, answered, full, memory, no_base, is_refused, row_at}
use Rattle.version_book.specs.declared.rows.Row.{Row as ToldRow}
use Rattle.lazy_rec.specs.declared.events.Reply.{Reply}
use Rattle.version_book.specs.declared.rows.Ended.{Ended}
use Rattle.version_book.specs.declared.rows.Ended.TheVariants as ends
use Rattle.version_book.specs.Closed.{told_of, told_with, ended_told, row_told}
use Rattle.version_book.specs.Replies.{reply_in, reply_of_told, reply_told}
use Rattle.report_text.specs.Report.{is_reply, is_lost, some_given_up, lines_to, reply_text, ended_text, told_text}

abbrev no_reply : Option ToldRow → Bool
no_reply None = false
no_reply (Some r) = not (is_reply r.ended)

no_reply_told : (name : ℕ) (s : Row) (e : Ending) (r : ToldRow) → told_of name (Some (record s { ending = e })) ≡ Some r → is_refused e ≡ not (is_reply r.ended)
no_reply_told name s not_ended r h = cc
no_reply_told name s (answered reply version second) r h = ap no_reply h
no_reply_told name s (full drawn wanted) r h = ap no_reply h
no_reply_told name s memory r h = ap no_reply h
no_reply_told name s no_base r h = ap no_reply h

told_refused : (name : ℕ) (o : Option Row) (r : ToldRow) → told_of name o ≡ Some r → is_some_and (λ (s : Row). is_refused s.ending) o ≡ not (is_reply r.ended)
told_refused name None r h = cc
told_refused name (Some s) r h = no_reply_told name s s.ending r h

-- a row is given up exactly where it tells no reply
pub given_up_told : (w : World) (i : ℕ) (r : ToldRow) → row_told w i ≡ Some r → is_lost w i ≡ not (is_reply r.ended)
given_up_told w i r h = told_refused i (row_at w i) r h

-- a row tells its name
told_named : (name : ℕ) (o : Option Row) (r : ToldRow) → told_of name o ≡ Some r → r.name ≡ name
told_named name None r h = cc
told_named name (Some s) r h = go (ended_told s.ending) h
  where
    go : (x : Option Ended) → option_map (told_with name s) x ≡ Some r → r.name ≡ name
    go None k = cc
    go (Some e) k = let same : told_with name s e ≡ r = cc in sym (ap (λ (x : ToldRow). x.name) same)

pub row_named : (w : World) (name : ℕ) (r : ToldRow) → row_told w name ≡ Some r → r.name ≡ name
row_named w name r h = told_named name (row_at w name) r h

kept_as : (b lost : Bool) → lost ≡ false → b ≡ (b || lost)
kept_as true lost h = refl
kept_as false lost h = sym h

noted : (b lost : Bool) → lost ≡ true → true ≡ (b || lost)
noted true lost h = refl
noted false lost h = sym h

-- the line of a row with a reply, which isn't given up
pub record IsReplied (w : World) (name : ℕ) (reply : Reply) : Type 0 where
  pub text : told_text (row_told w name) ≡ decimal name ++ codes " " ++ reply_text reply ++ codes "\n"
  pub kept : (b : Bool) → b ≡ (b || is_lost w name)

pub replied : (w : World) (name : ℕ) (reply : Reply) → Some reply ≡ reply_told w name → IsReplied w name reply
replied w name reply h = by (row_told w name) refl h
  where
    shown : (r : ToldRow) (e : Ended) → row_told w name ≡ Some r → r.ended ≡ e → Some reply ≡ reply_in e → IsReplied w name reply
    shown r (ends.Reply told first second) there is k =
        let same : reply ≡ told = cc in
        record {
          text = ap told_text there ∙ (ap (λ n. decimal n ++ codes " " ++ ended_text r.ended ++ codes "\n") (row_named w name r there) ∙ (ap (λ e. decimal name ++ codes " " ++ ended_text e ++ codes "\n") is ∙ ap (λ t. decimal name ++ codes " " ++ reply_text t ++ codes "\n") (sym same)));
          kept = λ b. kept_as b (is_lost w name) (given_up_told w name r there ∙ ap (λ e. not (is_reply e)) is);
        }
    shown r (ends.Full drawn wanted) there is k = cc
    shown r ends.Memory there is k = cc
    shown r ends.NoBase there is k = cc

    by : (o : Option ToldRow) → row_told w name ≡ o → Some reply ≡ reply_of_told o → IsReplied w name reply
    by None there k = cc
    by (Some r) there k = shown r r.ended there refl k

-- and of one without, which is
pub record IsUnreplied (w : World) (name : ℕ) (r : ToldRow) : Type 0 where
  pub text : told_text (row_told w name) ≡ decimal name ++ codes " " ++ ended_text r.ended ++ codes "\n"
  pub lost : (b : Bool) → true ≡ (b || is_lost w name)

pub unreplied : (w : World) (name : ℕ) (r : ToldRow) → None ≡ reply_told w name → row_told w name ≡ Some r → IsUnreplied w name r
unreplied w name r none there =
    record {
      text = ap told_text there ∙ ap (λ n. decimal n ++ codes " " ++ ended_text r.ended ++ codes "\n") (row_named w name r there);
      lost = λ b. noted b (is_lost w name) (given_up_told w name r there ∙ by r.ended (none ∙ ap reply_of_told there));
    }
  where
    by : (e : Ended) → None ≡ reply_in e → not (is_reply e) ≡ true
    by (ends.Reply told first second) k = cc
    by (ends.Full drawn wanted) k = refl
    by ends.Memory k = refl
    by ends.NoBase k = refl

-- one more line
pub line_more : (w : World) (i : ℕ) (before after : List ℕ) → before ≡ lines_to w i → after ≡ before ++ told_text (row_told w (i + 1)) → after ≡ lines_to w (i + 1)
line_more w i before after h is =
    let e : i + 1 ≡ suc i = omega arith in
    rw e (is ∙ (rw e (ap (λ l. l ++ told_text (row_told w (suc i))) h)))

pub some_more : (w : World) (i : ℕ) (b c : Bool) → b ≡ some_given_up w i → c ≡ (b || is_lost w (i + 1)) → c ≡ some_given_up w (i + 1)
some_more w i b c h is =
    let e : i + 1 ≡ suc i = omega arith in
    is ∙ (rw (e, h) refl)
