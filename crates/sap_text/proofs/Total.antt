-- Each list of bytes gives an answer.
use Rattle.std.proofs.Common.{◌≡◌, ◌≤◌, ◌<◌, ◌+◌, ℕ, zero, suc, Bool, true, false, List, [], ◌∷◌, length, take, drop, refl, arith}
use Rattle.std.specs.Prelude.{Ok, Err, nat_le}
use Rattle.std.proofs.lemmas.Grind.{common_steps}
use Rattle.sap_text.specs.declared.front.Front.{Front}
use Rattle.sap_text.specs.declared.front.Front.TheVariants as front
use Rattle.sap_text.specs.declared.fault.Lex.TheVariants as fault
use Rattle.sap_text.specs.declared.token.Kind.{Kind}
use Rattle.sap_text.specs.Tokens.{counted, line_feeds, IsLongest, Lexed, before, IsLexed, ended, failed}
use Rattle.sap_text.specs.code.Front.{AtFront, front_at, Stands, Within}
use Rattle.sap_text.proofs.Joins.{step_skip, step_taken, step_long}
use Rattle.sap_text.proofs.Sound.{stands, front_fits}

abbrev Answer : ℕ → ℕ → ℕ → List ℕ → Type 0
Answer most at line z = (o : Lexed) × IsLexed most at line z o

shorter : (n fuel : ℕ) (z : List ℕ) → 1 ≤ n → length z ≤ suc fuel → length (drop n z) ≤ fuel
shorter n fuel z some le = grind (arith, common_steps)

module _ (most fuel at line : ℕ) (z : List ℕ) (le : length z ≤ suc fuel) (later : (at line : ℕ) (w : List ℕ) → length w ≤ fuel → Answer most at line w) where
  taken_answer : (k : Kind) (n : ℕ) → 1 ≤ n → AtFront (IsLongest k) z n → (b : Bool) → nat_le (counted k n) most ≡ b → Answer most at line z
  taken_answer k n some s true e =
      let r = later (at + n) line (drop n z) (shorter n fuel z some le) in
      let fits : counted k n ≤ most = grind arith in
      (before (record { kind = k; from = at; to = at + n; line = line }) r.0, step_taken most at line n z r.0 k s fits r.1)
  taken_answer k n some s false e =
      let long : most < counted k n = grind arith in
      (Err (fault.NameLong at), step_long most at line n z k s long)

  front_answer : (f : Front) → Stands at z f → Within (length z) f → Answer most at line z
  front_answer (front.Skip n) s w =
      let r = later (at + n) (line + line_feeds (take n z)) (drop n z) (shorter n fuel z w.0 le) in
      (r.0, step_skip most at line n z r.0 s r.1)
  front_answer (front.Taken k n) s w = taken_answer k n w.0 s (nat_le (counted k n) most) refl
  front_answer (front.Fault f) s w = (Err f, failed s)

answer_within : (most fuel at line : ℕ) (z : List ℕ) → length z ≤ fuel → Answer most at line z
answer_within most fuel at line [] le = (Ok [], ended)
answer_within most zero at line (b ∷ z) le = absurd (omega (arith, le))
answer_within most (suc fuel) at line (b ∷ z) le =
    front_answer most fuel at line (b ∷ z) le (answer_within most fuel) (front_at at b z) (stands at b z) (front_fits at b z)

pub some_answer : (most : ℕ) (z : List ℕ) → Answer most 0 1 z
some_answer most z = answer_within most (length z) 0 1 z (omega arith)
