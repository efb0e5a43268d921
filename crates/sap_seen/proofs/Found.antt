-- To each place of what is seen but a `0` one comes by a written place with its nodes, and to nothing else.
use Rattle.std.proofs.Common.{◌≡◌, ℕ, zero, suc, List, [], ◌∷◌, Option, Some, None, refl, subst}
use Rattle.sap_terms.specs.Tree.{Tree}
use Rattle.sap_process.specs.Proc as whole
use Rattle.sap_process.specs.Proc.{Proc}
use Rattle.sap_macro.specs.Located.{Located, call_at}
use Rattle.sap_nodes.specs.HeadNodes.{head_nodes}
use Rattle.sap_origin.specs.Definitions.{LocatedDefinition}
use Rattle.sap_origin.specs.Meant.{definition_of}
use Rattle.sap_origin.specs.Reached.{Standing, entered, process_at, process_below, IsSeen, reaches_here, reaches_use, reaches_left, reaches_right, reaches_copy, reaches_behind, reaches_then, reaches_else, reaches_found, reaches_missing}
use Rattle.sap_seen.specs.SeenNodes.{seen_nodes}
use Rattle.sap_seen.specs.SeenPlaces.{ComesSeen}
use Rattle.sap_seen.proofs.SeenSo.{SeenSo, so_nil, so_left, so_use, so_parallel, so_replicated, so_act, so_test, so_lookup}

-- one comes to a written place, and it has these nodes
pub record Found (ds : List LocatedDefinition) (s : Standing) (p : Located) (path : List ℕ) (y : Proc) : Type 0 where
  pub standing : Standing
  pub place : Located
  pub comes : ComesSeen ds s p path standing place
  pub nodes : head_nodes y ≡ seen_nodes place

here : {ds : List LocatedDefinition} {s : Standing} {p : Located} {x y : Proc} → IsSeen ds p → head_nodes x ≡ seen_nodes p → ◌≡◌ {A = Option Proc} (Some x) (Some y) → Found ds s p [] y
here {s = s} {p = p} {x = x} {y = y} f m e =
    let is : x ≡ y = cc (e) in
    record { standing = s; place = p; comes = reaches_here f; nodes = subst (λ (z : Proc). head_nodes z ≡ seen_nodes p) is m }

-- nothing has a place at other digits
nowhere : {A : Type 0} {y : Proc} (path : List ℕ) → process_below None path ≡ Some y → A
nowhere [] e = absurd (cc (e))
nowhere (e ∷ path) h = absurd (cc (h))

-- below a use that is left there is a `0` alone
zero_alone : {A : Type 0} {y : Proc} (path : List ℕ) → ¬ (y ≡ whole.nil) → process_below (Some whole.nil) path ≡ Some y → A
zero_alone {y = y} [] some e = let is : y ≡ whole.nil = cc (e) in absurd (some is)
zero_alone (zero ∷ path) some h = nowhere path h
zero_alone (suc zero ∷ path) some h = nowhere path h
zero_alone (suc (suc zero) ∷ path) some h = nowhere path h
zero_alone (suc (suc (suc k)) ∷ path) some h = nowhere path h

module _ {ds : List LocatedDefinition} where
  through : {s : Standing} {k : ℕ} {f : List ℕ} {ts : List Tree} {d : LocatedDefinition} {path : List ℕ} {y : Proc} → definition_of ds f ≡ Some d → d.params ≡ [] → Found ds (entered s k d) d.body path y
      → Found ds s (call_at k f ts) path y
  through e none h = record { standing = h.standing; place = h.place; comes = reaches_use e none h.comes; nodes = h.nodes }

  pub found : (s : Standing) {p : Located} {x y : Proc} (path : List ℕ) → SeenSo ds p x → ¬ (y ≡ whole.nil) → process_at x path ≡ Some y → Found ds s p path y
  found s path (so_use {k = k} {d = d} e none m) some h = through e none (found (entered s k d) path m some h)
  found s [] so_nil some h = here tt refl h
  found s [] (so_left l) some h = here l refl h
  found s [] (so_parallel m n) some h = here tt refl h
  found s [] (so_replicated m) some h = here tt refl h
  found s [] (so_act m) some h = here tt refl h
  found s [] (so_test m n) some h = here tt refl h
  found s [] (so_lookup m n) some h = here tt refl h
  found s (zero ∷ path) so_nil some h = nowhere path h
  found s (suc zero ∷ path) so_nil some h = nowhere path h
  found s (suc (suc zero) ∷ path) so_nil some h = nowhere path h
  found s (suc (suc (suc k)) ∷ path) so_nil some h = nowhere path h
  found s (zero ∷ path) (so_left l) some h = nowhere path h
  found s (suc zero ∷ path) (so_left l) some h = zero_alone path some h
  found s (suc (suc zero) ∷ path) (so_left l) some h = nowhere path h
  found s (suc (suc (suc k)) ∷ path) (so_left l) some h = nowhere path h
  found s (zero ∷ path) (so_parallel m n) some h = nowhere path h
  found s (suc zero ∷ path) (so_parallel m n) some h = let r = found s path m some h in record { standing = r.standing; place = r.place; comes = reaches_left r.comes; nodes = r.nodes }
  found s (suc (suc zero) ∷ path) (so_parallel m n) some h = let r = found s path n some h in record { standing = r.standing; place = r.place; comes = reaches_right r.comes; nodes = r.nodes }
  found s (suc (suc (suc k)) ∷ path) (so_parallel m n) some h = nowhere path h
  found s (zero ∷ path) (so_replicated m) some h = nowhere path h
  found s (suc zero ∷ path) (so_replicated m) some h = let r = found s path m some h in record { standing = r.standing; place = r.place; comes = reaches_copy r.comes; nodes = r.nodes }
  found s (suc (suc zero) ∷ path) (so_replicated m) some h = nowhere path h
  found s (suc (suc (suc k)) ∷ path) (so_replicated m) some h = nowhere path h
  found s (zero ∷ path) (so_act m) some h = nowhere path h
  found s (suc zero ∷ path) (so_act m) some h = let r = found s path m some h in record { standing = r.standing; place = r.place; comes = reaches_behind r.comes; nodes = r.nodes }
  found s (suc (suc zero) ∷ path) (so_act m) some h = nowhere path h
  found s (suc (suc (suc k)) ∷ path) (so_act m) some h = nowhere path h
  found s (zero ∷ path) (so_test m n) some h = nowhere path h
  found s (suc zero ∷ path) (so_test m n) some h = let r = found s path m some h in record { standing = r.standing; place = r.place; comes = reaches_then r.comes; nodes = r.nodes }
  found s (suc (suc zero) ∷ path) (so_test m n) some h = let r = found s path n some h in record { standing = r.standing; place = r.place; comes = reaches_else r.comes; nodes = r.nodes }
  found s (suc (suc (suc k)) ∷ path) (so_test m n) some h = nowhere path h
  found s (zero ∷ path) (so_lookup m n) some h = nowhere path h
  found s (suc zero ∷ path) (so_lookup m n) some h = let r = found s path m some h in record { standing = r.standing; place = r.place; comes = reaches_found r.comes; nodes = r.nodes }
  found s (suc (suc zero) ∷ path) (so_lookup m n) some h = let r = found s path n some h in record { standing = r.standing; place = r.place; comes = reaches_missing r.comes; nodes = r.nodes }
  found s (suc (suc (suc k)) ∷ path) (so_lookup m n) some h = nowhere path h
