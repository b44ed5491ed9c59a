use Rattle.std.proofs.Common.{◌≡◌, ◌+◌, Ok, Err, [], sym, ap, ap₂, subst₂, ◌∙◌, inl, arith}
use Rattle.script_text.specs.declared.model.ScriptFault.TheVariants.{Line}
use Rattle.script_text.specs.Lines.{lines_of, words_of}
use Rattle.script_text.specs.Labels.{names_in}
use Rattle.script_text.specs.Text.{IsText, IsFirstFault, body}
use Rattle.script_text.proofs.Follow.{follows}
use Rattle.script_text.proofs.SoFar.{reads_start, header_read, reads_blank, reads_comment, reads_event, reads_fault, text_read, fault_read}
use Rattle.script_text.proofs.CommonLines.{reads_on}
use Rattle.script_text.proofs.Unique.{one_script, script_or_fault, first_fault}
use Rattle.script_text.proofs.script.read_script.Goals as goal

pub push-requires : goal.push-requires
push-requires c = follows c.read_common_lines.new.script (names_in c.loop-labels.labels) c.in-Some-next_word.word.now (words_of c.in-Some-next_word.words.now) c.in-Ok.event (sym c.in-Ok.ensures)

pub loop-labels-init : goal.loop-labels-init
loop-labels-init c =
    let shorter = c.in-Some.ensures.shorter in
    let empty : c.new-labels.result.entries ≡ [] = c.new-labels.ensures.empty in
    record {
      number = omega (arith, shorter);
      reads = reads_start c.args.bytes.now c.in-Some.header.now (lines_of c.in-Some.after.now) c.in-Some-form_said.form c.new-script.result (names_in c.new-labels.result) c.in-Some.ensures.line c.new-script.ensures (λ w. rw empty);
    }

pub loop-labels-preserved-in_default-next_word : goal.loop-labels-preserved-in_default-next_word
loop-labels-preserved-in_default-next_word c =
    let shorter = c.in-Some-next_line.ensures.shorter in
    let on = c.in_ok-read_common_lines.ensures in
    record {
      number = omega (arith, shorter, on.number);
      reads = reads_blank c.new-script.result.form (body c.args.bytes.now) c.read_common_lines.new.script (names_in c.loop-labels.labels) (c.read_common_lines.new.number + 1) c.in-Some-next_line.line.now (lines_of c.in-Some-next_line.after.now) (lines_of c.in_ok-read_common_lines.field-0.now) c.in-Some-next_line.ensures.line c.in_default-next_word.ensures (reads_on c.new-script.result.form (body c.args.bytes.now) c.loop-labels.script c.read_common_lines.new.script (names_in c.loop-labels.labels) (c.loop-labels.number + 1) (c.read_common_lines.new.number + 1) c.loop-labels.rest.now c.in_ok-read_common_lines.field-0.now c.in_ok-read_common_lines.ensures c.loop-labels.invariant.reads);
    }

pub loop-labels-preserved-then-begins_with : goal.loop-labels-preserved-then-begins_with
loop-labels-preserved-then-begins_with c =
    let shorter = c.in-Some-next_line.ensures.shorter in
    let on = c.in_ok-read_common_lines.ensures in
    record {
      number = omega (arith, shorter, on.number);
      reads = reads_comment c.new-script.result.form (body c.args.bytes.now) c.read_common_lines.new.script (names_in c.loop-labels.labels) (c.read_common_lines.new.number + 1) c.in-Some-next_line.line.now c.in-Some-next_word.word.now (words_of c.in-Some-next_word.words.now) (lines_of c.in-Some-next_line.after.now) (lines_of c.in_ok-read_common_lines.field-0.now) c.in-Some-next_line.ensures.line c.in-Some-next_word.ensures (sym c.begins_with.ensures ∙ c.if-begins_with.true) (reads_on c.new-script.result.form (body c.args.bytes.now) c.loop-labels.script c.read_common_lines.new.script (names_in c.loop-labels.labels) (c.loop-labels.number + 1) (c.read_common_lines.new.number + 1) c.loop-labels.rest.now c.in_ok-read_common_lines.field-0.now c.in_ok-read_common_lines.ensures c.loop-labels.invariant.reads);
    }

pub loop-labels-preserved : goal.loop-labels-preserved
loop-labels-preserved c =
    let shorter = c.in-Some-next_line.ensures.shorter in
    let on = c.in_ok-read_common_lines.ensures in
    record {
      number = omega (arith, shorter, on.number);
      reads = rw c.in_ok-push-in-Ok.ensures (reads_event c.new-script.result.form (body c.args.bytes.now) c.read_common_lines.new.script (names_in c.loop-labels.labels) (names_in c.with_label.new.labels) c.in-Ok.event (c.read_common_lines.new.number + 1) c.in-Some-next_line.line.now c.in-Some-next_word.word.now (words_of c.in-Some-next_word.words.now) (lines_of c.in-Some-next_line.after.now) (lines_of c.in_ok-read_common_lines.field-0.now) c.in-Some-next_line.ensures.line c.in-Some-next_word.ensures (sym c.begins_with.ensures ∙ c.if-begins_with.false) (sym c.in-Ok.ensures) (λ kept same. c.in_ok-with_label-in-Ok.ensures kept same) (reads_on c.new-script.result.form (body c.args.bytes.now) c.loop-labels.script c.read_common_lines.new.script (names_in c.loop-labels.labels) (c.loop-labels.number + 1) (c.read_common_lines.new.number + 1) c.loop-labels.rest.now c.in_ok-read_common_lines.field-0.now c.in_ok-read_common_lines.ensures c.loop-labels.invariant.reads));
    }

-- the faulty line that was found
faulty : (c : goal.After-drop-script-inside-in-Err-2) → IsFirstFault c.args.bytes.now (c.read_common_lines.new.number + 1) c.in-Err.reason
faulty c =
    fault_read c.args.bytes.now c.in-Some.header.now (lines_of c.in-Some.after.now) c.new-script.result.form (c.read_common_lines.new.number + 1) c.in-Err.reason c.in-Some.ensures.line (header_read c.in-Some.header.now c.form_said.result c.in-Some-form_said.form c.new-script.result c.form_said.ensures c.in-Some-form_said.is c.new-script.ensures)
    (reads_fault c.new-script.result.form (body c.args.bytes.now) c.read_common_lines.new.script (names_in c.loop-labels.labels) c.in-Err.reason (c.read_common_lines.new.number + 1) c.in-Some-next_line.line.now c.in-Some-next_word.word.now (words_of c.in-Some-next_word.words.now) (lines_of c.in-Some-next_line.after.now) (lines_of c.in_ok-read_common_lines.field-0.now) c.in-Some-next_line.ensures.line c.in-Some-next_word.ensures (sym c.begins_with.ensures ∙ c.if-begins_with.false) (sym c.in-Err.ensures) (reads_on c.new-script.result.form (body c.args.bytes.now) c.loop-labels.script c.read_common_lines.new.script (names_in c.loop-labels.labels) (c.loop-labels.number + 1) (c.read_common_lines.new.number + 1) c.loop-labels.rest.now c.in_ok-read_common_lines.field-0.now c.in_ok-read_common_lines.ensures c.loop-labels.invariant.reads))

pub returns-in-Err-clause-fault : goal.returns-in-Err-clause-fault
returns-in-Err-clause-fault c line reason is =
    let at : c.read_common_lines.new.number + 1 ≡ line = cc in
    let why : c.in-Err.reason ≡ reason = cc in
    subst₂ (IsFirstFault c.args.bytes.now) at why (faulty c)

pub returns-in-Err-clause-each_text : goal.returns-in-Err-clause-each_text
returns-in-Err-clause-each_text c s text = absurd (script_or_fault c.args.bytes.now s (c.read_common_lines.new.number + 1) c.in-Err.reason text (faulty c))

pub returns-in-Err-clause-each_fault : goal.returns-in-Err-clause-each_fault
returns-in-Err-clause-each_fault c line reason fault =
    let same = first_fault c.args.bytes.now (c.read_common_lines.new.number + 1) line c.in-Err.reason reason (faulty c) fault in inl (ap₂ (λ l r. Err (Line l r)) same.0 same.1)

-- the text that was read
read : (c : goal.After-drop-labels-2) → IsText c.args.bytes.now c.read_common_lines.new.script
read c = text_read c.args.bytes.now c.in-Some.header.now (lines_of c.in-Some.after.now) (lines_of c.in_ok-read_common_lines.field-0.now) c.new-script.result.form c.read_common_lines.new.script (names_in c.loop-labels.labels) (c.read_common_lines.new.number + 1) c.in-Some.ensures.line (header_read c.in-Some.header.now c.form_said.result c.in-Some-form_said.form c.new-script.result c.form_said.ensures c.in-Some-form_said.is c.new-script.ensures) c.in_default-next_line.ensures.line (reads_on c.new-script.result.form (body c.args.bytes.now) c.loop-labels.script c.read_common_lines.new.script (names_in c.loop-labels.labels) (c.loop-labels.number + 1) (c.read_common_lines.new.number + 1) c.loop-labels.rest.now c.in_ok-read_common_lines.field-0.now c.in_ok-read_common_lines.ensures c.loop-labels.invariant.reads)

pub returns-clause-script : goal.returns-clause-script
returns-clause-script c = read c

pub returns-clause-each_text : goal.returns-clause-each_text
returns-clause-each_text c s text = inl (ap (λ t. Ok t) (one_script c.args.bytes.now c.read_common_lines.new.script s (read c) text))

pub returns-clause-each_fault : goal.returns-clause-each_fault
returns-clause-each_fault c line reason fault = absurd (script_or_fault c.args.bytes.now c.read_common_lines.new.script line reason (read c) fault)
