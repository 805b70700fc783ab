use Rattle.std.proofs.Common.{◌≡◌, drop}
use Rattle.notation.specs.Texts.{texts}
use Rattle.script.specs.Tables.{Laying, nothing_laid, axes_laid, whole}
use Rattle.script.proofs.TableLaws.{told}
use Rattle.script.proofs.laying.each_axis.Given as goal

abbrev pub invariant-loop-word : goal.invariant-loop-word
invariant-loop-word l =
    (m : Laying) × (whole m ≡ told l.refused l.tables) × (axes_laid (texts (drop l.word-index l.words)) m ≡ axes_laid (texts l.words) nothing_laid)
