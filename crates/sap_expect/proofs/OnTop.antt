-- What is open where a word is tried.
use Rattle.std.proofs.Common.{◌≡◌, ℕ, List, [], ◌∷◌, ◌++◌, append_assoc, refl, sym, ap, ◌∙◌, subst, arith, length, take}
use Rattle.std.proofs.lemmas.List.{map-append, reverse-append}
use Rattle.std.specs.Prelude.{map, reverse}
use Rattle.sap_expect.specs.declared.wanted.Wanted as code
use Rattle.sap_grammar.specs.Words.{Word}
use Rattle.sap_expect.specs.FileTable.{Counting, Open, TakesBy}
use Rattle.sap_expect.specs.code.Attempts.{on_top}
use Rattle.sap_expect.specs.code.WantedView.{open_of, stacked}
use Rattle.sap_expect.proofs.Takes.{no_takes}

nothing : (vs : List (code.Wanted × ℕ)) → length vs ≡ 0 → vs ≡ []
nothing [] e = refl
nothing (v ∷ vs) e = absurd (omega (arith, e))

both_stacked : (us vs : List (code.Wanted × ℕ)) → stacked (us ++ vs) ≡ stacked vs ++ stacked us
both_stacked us vs = ap reverse (map-append open_of us vs) ∙ reverse-append (map open_of us) (map open_of vs)

-- what is put on top is wanted first
pub put_on_top : (under more new : List (code.Wanted × ℕ)) (all : List Open) → stacked new ≡ all ++ stacked more → stacked (under ++ new) ≡ all ++ stacked (under ++ more)
put_on_top under more new all e =
    both_stacked under new ∙ ap (λ (us : List Open). us ++ stacked under) e ∙ append_assoc all (stacked more) (stacked under)
    ∙ ap (λ (us : List Open). all ++ us) (sym (both_stacked under more))

-- where nothing came and nothing is left nothing is wanted
pub none_on_top : (vs more : List (code.Wanted × ℕ)) (n : ℕ) → n ≡ 0 → length more ≡ 0 → on_top vs n more ≡ []
none_on_top vs more n e f = ap (λ (j : ℕ). take j vs ++ more) e ∙ nothing more f

pub none_taken_on : {s : Counting} (vs : List (code.Wanted × ℕ)) (n : ℕ) (w : Word) → vs ≡ [] → (k : ℕ) (next : List Open) → TakesBy s n (stacked vs) w k next → ⊥
none_taken_on {s = s} vs n w e k next t = no_takes n w k next (subst (λ (us : List (code.Wanted × ℕ)). TakesBy s n (stacked us) w k next) e t)
