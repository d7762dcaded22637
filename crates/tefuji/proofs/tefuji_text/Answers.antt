-- `tefuji::tefuji_text` meets its contract.
use mathlib.Core.Path.{ap, ◌∙◌}
use Rattle.codes.specs.Codes.{length_code}
use Rattle.tefuji.proofs.tefuji_text.Goals as goal

pub returns : goal.returns
returns c = record { value = c.length_code.ensures ∙ ap length_code c.table_text.ensures.value; text_after = c.table_text.ensures.out_after }
