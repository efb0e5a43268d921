-- Answers as the code has them.
use Rattle.std.specs.Prelude.{Option, None, Some}
use Rattle.sap_answer.specs.Answer.{Answer, gives, tells}
use Rattle.sap_answer.specs.declared.answer.Answer.{Answer as Said}
use Rattle.sap_answer.specs.declared.answer.Answer.TheVariants.{Out, Err}

-- what is said, where anything is
abbrev pub said : Option Said → Option Answer
said None = None
said (Some (Out text)) = Some (gives text.now)
said (Some (Err status text)) = Some (tells status text.now)
