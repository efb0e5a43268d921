-- Calls by hand that put a first part of a text on out: how many puts there were, and which bytes they can have been.
use Rattle.std.proofs.Common.{◌≡◌, ◌<◌, ◌≤◌, ◌+◌, ◌*◌, ◌-◌, ◌^◌, min, ℕ, zero, suc, List, [], ◌∷◌, length, take, Option, Some, refl, ap, subst, ◌∙◌, arith, lit<}
use Rattle.std.proofs.lemmas.List.{length-take}
use Rattle.std.proofs.lemmas.Grind.{div_ceil_times}
use Rattle.std.specs.Prelude.{codes}
use Rattle.sap_outside.specs.Outside.{more, one_more}
use Rattle.sap_outside.specs.Pieces.{pieces, GainedPart}
use Rattle.sap_outside.specs.Requests.{Request}
use Rattle.sap_outside.specs.Stream.{Stream}
use Rattle.sap_answer.specs.Answer.{Answer, gives, tells, Part, Broken, write_fault_text}
use Rattle.sap_pages.specs.Texts.{version_text}
use Rattle.sap_tool.specs.Answers.{IsAnswer}
use Rattle.sap_tool.specs.Call.{Call}
use Rattle.sap_tool.specs.Promises as promised
use Rattle.sap_tool.specs.PromisesExamples.{asking, failed, got}

-- the count of puts from none on
counts : (n : ℕ) → more n (Some 0) ≡ Some (min n 18446744073709551615)
counts zero = refl
counts (suc n) =
    let rest = counts n in
    let next : min (min n 18446744073709551615 + 1) (2 ^ 64 - 1) ≡ min (suc n) 18446744073709551615 = omega arith in
    ap one_more rest ∙ ap Some next

puts_are : (n puts : ℕ) → puts < 18446744073709551615 → Some puts ≡ more n (Some 0) → n ≡ puts
puts_are n puts few e =
    let same : ◌≡◌ {A = Option ℕ} (Some puts) (Some (min n 18446744073709551615)) = e ∙ counts n in
    let is : puts ≡ min n 18446744073709551615 = cc (same) in
    omega (arith, is, few)

-- a text of more than one piece is longer than one
two_pieces : (text : List ℕ) → 1 < pieces text → 4096 < length text
two_pieces text more =
    let bounds = div_ceil_times (length text) 4096 (lit< tt) in
    let above : pieces text * 4096 < length text + 4096 = bounds.1 in
    omega (arith, more, above)

-- fewer bytes than a piece has, by two puts, are a first part of no text
pub no_two_puts : (bytes : List ℕ) → length bytes < 4096 → (taken : ℕ) (text : List ℕ) → GainedPart (failed 1 bytes 2) taken text → ⊥
no_two_puts bytes few taken text part =
    let puts : suc part.whole ≡ 2 = puts_are (suc part.whole) 2 (lit< tt) part.gained.1 in
    let is : part.whole ≡ 1 = omega (arith, puts) in
    let long : 4096 < length text = two_pieces text (subst (λ (n : ℕ). n < pieces text) is part.next) in
    let behind : 1 * 4096 ≤ taken = subst (λ (n : ℕ). n * 4096 ≤ taken) is part.behind in
    let size : length bytes ≡ min taken (length text) = ap (λ (z : List ℕ). length z) part.gained.0 ∙ length-take taken text in
    omega (arith, long, behind, size, few)

-- nor are more bytes than a piece has by one
pub no_long_put : (bytes : List ℕ) → 4096 < length bytes → (taken : ℕ) (text : List ℕ) → GainedPart (failed 1 bytes 1) taken text → ⊥
no_long_put bytes long taken text part =
    let puts : suc part.whole ≡ 1 = puts_are (suc part.whole) 1 (lit< tt) part.gained.1 in
    let is : part.whole ≡ 0 = omega (arith, puts) in
    let within : taken ≤ 0 * 4096 + 4096 = subst (λ (n : ℕ). taken ≤ n * 4096 + 4096) is part.within in
    let size : length bytes ≡ min taken (length text) = ap (λ (z : List ℕ). length z) part.gained.0 ∙ length-take taken text in
    omega (arith, long, within, size)

-- where err has no fault, what status 5 leaves is a first part of a text on out
module _ (words : List (List ℕ)) (made : List Request) (faults : ℕ) (out : Stream) where
  abbrev pub call : Call
  call = asking words made faults out (got write_fault_text 1)

  pub on_out : ((text : List ℕ) (taken : ℕ) → IsAnswer call (gives text) → GainedPart out taken text → ⊥) → promised.Unwritten call → ⊥
  on_out never u = at u.answer u.cause u.broken u.taken u.last u.part where
    at : (answer : Answer) → IsAnswer call answer → Broken answer call.out call.err → (taken : ℕ) (last : List ℕ) → Part answer taken last call.out call.err → ⊥
    at (gives text) is broken taken last part = never text taken is part.0
    at (tells n text) is broken taken last part = let l : 1 ≤ 0 = broken in omega (arith, l)

-- the version begins with another byte
abbrev first_byte : List ℕ → ℕ
first_byte [] = 0
first_byte (b ∷ z) = b

pub no_usage : (taken : ℕ) → codes "usage" ≡ take taken version_text → ⊥
no_usage zero e = cc (e)
no_usage (suc n) e = let byte : 117 ≡ 115 = ap first_byte e in omega (arith, byte)
