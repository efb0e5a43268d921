-- A size that is put by the name of a definition.
use Rattle.std.proofs.Common.{◌≡◌, ℕ, min, List, Some, sym, ap, ◌∙◌, subst, ⊎_elim}
use Rattle.std.proofs.lemmas.Bool.{cases_Bool}
use Rattle.std.specs.Prelude.{if◌then◌else◌}
use Rattle.std.specs.Str.{bytes_eq}
use Rattle.sap_terms.specs.NameMap.{Puts, value_at}
use Rattle.sap_macro.specs.KeptSizes.{levels_kept}
use Rattle.sap_macro.specs.Written.{Definition}
use Rattle.sap_macro.specs.code.Sizes.{levels_in, with_levels}
use Rattle.sap_macro.specs.declared.sizes.Size.{Size}

pub levels_put : (d : Definition) (old new : List (List ℕ × Size)) (name : List ℕ) (s : Size) → Puts old new name (Some s) → name ≡ d.name
    → s.levels ≡ min (levels_in old d.body) 18446744073709551615 → (f : List ℕ) → levels_kept (value_at new f) ≡ with_levels (λ g. levels_kept (value_at old g)) d f
levels_put d old new name s puts is same f =
    let now = subst (λ (n : List ℕ). Puts old new n (Some s)) is puts f in
    ⊎_elim
    (λ e.
    ap levels_kept (now ∙ ap (λ b. if b then Some s else value_at old f) e) ∙ same
    ∙ sym (ap (λ b. if b then min (levels_in old d.body) 18446744073709551615 else levels_kept (value_at old f)) e))
    (λ e.
    ap levels_kept (now ∙ ap (λ b. if b then Some s else value_at old f) e)
    ∙ sym (ap (λ b. if b then min (levels_in old d.body) 18446744073709551615 else levels_kept (value_at old f)) e))
    (cases_Bool (bytes_eq d.name f))
