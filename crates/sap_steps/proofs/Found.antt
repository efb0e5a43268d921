-- What bindings say that extend others.
use Rattle.std.proofs.Common.{List, [], ◌∷◌, ◌++◌, subst}
use Rattle.std.specs.Prelude.{Contains}
use Rattle.sap_terms.specs.Choice.{Choice}
use Rattle.sap_terms.specs.declared.binding.Binding.{Binding}
use Rattle.sap_terms.specs.declared.var.Var.{Var}
use Rattle.sap_rewrite.specs.Match.{Extends, Agrees, HaveOneSort}

pub agrees_before : (b d : List Binding) (σ : Choice) → Agrees (b ++ d) σ → Agrees b σ
agrees_before [] d σ a = tt
agrees_before (e ∷ es) d σ a = (a.0, agrees_before es d σ a.1)

pub agrees_extended : (b c : List Binding) (vs : List Var) (σ : Choice) → Extends b vs c → Agrees c σ → Agrees b σ
agrees_extended b c vs σ x a = agrees_before b x.added σ (subst (λ d. Agrees d σ) x.is a)

-- fewer variables have one sort each
pub fewer_sorts : (vs ws : List Var) → ((v : Var) → Contains vs v → Contains ws v) → HaveOneSort ws → HaveOneSort vs
fewer_sorts vs ws h one v w i j e = one v w (h v i) (h w j) e
