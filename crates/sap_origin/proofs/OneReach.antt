-- A path leads to one written place, through the same uses.
use Rattle.std.proofs.Common.{◌≡◌, ℕ, List, Option, Some, refl, sym, ◌∙◌, subst}
use Rattle.sap_terms.specs.Tree.{Tree}
use Rattle.sap_macro.specs.Located.{Located, call_at}
use Rattle.sap_origin.specs.Definitions.{LocatedDefinition}
use Rattle.sap_origin.specs.Meant.{definition_of}
use Rattle.sap_origin.specs.Reached.{IsEnd, IsReplaced, Standing, ReachesBy, reaches_here, reaches_use, reaches_left, reaches_right, reaches_copy, reaches_behind, reaches_then, reaches_else, reaches_found, reaches_missing, entered}
use Rattle.sap_origin.specs.declared.trail.Replaced.{Replaced}
use Rattle.sap_origin.specs.declared.trail.Replaced.TheVariants.{Every, Plain}

some_is : {d e : LocatedDefinition} → ◌≡◌ {A = Option LocatedDefinition} (Some d) (Some e) → d ≡ e
some_is h = cc (h)

-- a use that is left isn't replaced
pub not_left : (ds : List LocatedDefinition) (v : Replaced) {A : Type 0} (k : ℕ) (f : List ℕ) (ts : List Tree) (d : LocatedDefinition) → IsEnd ds v (call_at k f ts) → definition_of ds f ≡ Some d
    → IsReplaced v d.params → A
not_left ds Every k f ts d end e g = absurd end
not_left ds Plain k f ts d end e g = absurd (end d e g)

pub one_reach : (ds : List LocatedDefinition) (v : Replaced) {s z w : Standing} {p q r : Located} {path : List ℕ} → ReachesBy ds v s p path z q → ReachesBy ds v s p path w r → (z ≡ w) × (q ≡ r)
one_reach ds v (reaches_here h) (reaches_here g) = (refl, refl)
one_reach ds v (reaches_here h) (reaches_use {k = k} {f = f} {ts = ts} {d = d} e g n) = not_left ds v k f ts d h e g
one_reach ds v (reaches_use {k = k} {f = f} {ts = ts} {d = d} e g m) (reaches_here h) = not_left ds v k f ts d h e g
one_reach ds v (reaches_use {s = s} {k = k} {d = d} {path = path} e g m) (reaches_use {z = w} {q = r} f h n) =
    one_reach ds v m (subst (λ (b : LocatedDefinition). ReachesBy ds v (entered s k b) b.body path w r) (some_is (sym f ∙ e)) n)
one_reach ds v (reaches_left m) (reaches_left n) = one_reach ds v m n
one_reach ds v (reaches_right m) (reaches_right n) = one_reach ds v m n
one_reach ds v (reaches_copy m) (reaches_copy n) = one_reach ds v m n
one_reach ds v (reaches_behind m) (reaches_behind n) = one_reach ds v m n
one_reach ds v (reaches_then m) (reaches_then n) = one_reach ds v m n
one_reach ds v (reaches_else m) (reaches_else n) = one_reach ds v m n
one_reach ds v (reaches_found m) (reaches_found n) = one_reach ds v m n
one_reach ds v (reaches_missing m) (reaches_missing n) = one_reach ds v m n
