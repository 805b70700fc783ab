use Rattle.std.proofs.Common.{get_or, Ok, Err, Some, refl, sym, ap, ap₂, ◌∙◌, subst, arith}
use Rattle.std.specs.Option.{option_map}
use Rattle.notation.proofs.WordLaws.{no_text}
use Rattle.notation.specs.Texts.{texts}
use Rattle.script.specs.declared.stop.Stop.TheVariants.{Refused}
use Rattle.script.specs.declared.tables.Tables.{Tables}
use Rattle.script.specs.Stops.{MakesOrStops}
use Rattle.script.specs.Tables.{laying, nothing_laid, axes_laid, added, next_axis, whole}
use Rattle.script.proofs.StopLaws.{still_stopped, unread_stops}
use Rattle.script.proofs.TableLaws.{axis_unread, axis_read, axes_read, told, told_ok, told_added, told_refused}
use Rattle.script.proofs.laying.each_axis.Goals as goal
use Rattle.script.proofs.laying.each_axis.Goals.{then-is_ok+in-Ok, then-is_ok+in-Err-Refused, else-is_ok}

pub loop-word-init : goal.loop-word-init
loop-word-init c = (nothing_laid, ap Ok (sym c.none-tables.ensures), refl)

pub returns-in_err-axis : goal.returns-in_err-axis
returns-in_err-axis c =
    let m = c.loop-word.invariant.0 in
    unread_stops (λ t. Ok (laying t)) (option_map whole (axes_laid (texts c.args.words.now) nothing_laid)) (added m) c.in_err-axis.field-0.0
    (next_axis m (get_or c.args.words.now c.loop-word.word-index no_text).now) c.from_residual.result c.from_residual.ensures.1 (c.in_err-axis.ensures m)
    (λ e. ap (option_map whole) (axis_unread c.args.words.now nothing_laid c.loop-word.word-index m c.loop-word.invariant.2 c.loop-word-test.true e))

pub loop-word-preserved : goal.loop-word-preserved
loop-word-preserved c =
    let m = c.loop-word.invariant.0 in
    let a = c.in_ok-axis.axis in
    let r = c.loop-word.refused in
    let t = c.loop-word.tables in
    let k = c.is_ok.ensures.value in (
      added m a,
      elim c.if-is_ok.branch [
        | then-is_ok+in-Ok w ↦
            let ok = sym k ∙ w.if-is_ok.true in
            told_added m r t a c.loop-word.invariant.1 (Ok (laying w.add.new.self)) ok w.in-Ok.ensures
            ∙ sym (ap₂ told w.refused-is w.tables-is ∙ told_ok r w.add.new.self ok)
        | then-is_ok+in-Err-Refused w ↦
            told_added m r t a c.loop-word.invariant.1 (Err w.in-Err-Refused.fault) (sym k ∙ w.if-is_ok.true)
            (subst (λ s. MakesOrStops (λ (u : Unit {0}). Ok (laying w.add.new.self)) (Err s) (Some (whole (added (laying t) a)))) w.in-Err-Refused.field-0-is w.in-Err-Refused.ensures)
            ∙ sym (ap₂ told (w.refused-is ∙ ap Err w.in-Err-Refused.fault-is) w.tables-is)
        | else-is_ok w ↦ told_refused m r t a c.loop-word.invariant.1 (sym k ∙ w.if-is_ok.false) ∙ sym (ap₂ told w.refused-is w.tables-is)
      ],
      axis_read c.args.words.now nothing_laid c.loop-word.word-index m c.loop-word.invariant.2 c.loop-word-test.true (added m a) (c.in_ok-axis.ensures m),
    )

pub returns-in_err-refused : goal.returns-in_err-refused
returns-in_err-refused c =
    let m = c.loop-word.invariant.0 in
    let o = option_map whole (axes_laid (texts c.args.words.now) nothing_laid) in
    let all = axes_read c.args.words.now nothing_laid c.loop-word.word-index m c.loop-word.invariant.2 (omega arith) in
    let f = c.in_err-refused.field-0.0 in
    still_stopped (λ t. Ok (laying t)) o {A = Tables} (λ t. Ok (laying t)) (Refused f) o c.from_residual-in_err-refused.result c.from_residual-in_err-refused.ensures.1
    (ap Some (sym (c.loop-word.invariant.1 ∙ ap (λ r. told r c.loop-word.tables) c.in_err-refused.was)) ∙ ap (option_map whole) all) (λ e. e) (λ g e. e)

pub returns : goal.returns
returns c =
    let m = c.loop-word.invariant.0 in
    let all = axes_read c.args.words.now nothing_laid c.loop-word.word-index m c.loop-word.invariant.2 (omega arith) in
    ap Some (sym (c.loop-word.invariant.1 ∙ ap (λ r. told r c.loop-word.tables) c.in_ok-refused.was)) ∙ ap (option_map whole) all
