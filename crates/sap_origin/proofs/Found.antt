-- To each place of a process that is meant one comes by a written place, which means it, and to nothing else.
use Rattle.std.proofs.Common.{◌≡◌, ℕ, zero, suc, List, [], ◌∷◌, Option, Some, None, refl, sym, ◌∙◌, subst}
use Rattle.sap_process.specs.Proc.{Proc}
use Rattle.sap_macro.specs.Located.{Located, call_at}
use Rattle.sap_terms.specs.Tree.{Tree}
use Rattle.sap_origin.specs.Definitions.{LocatedDefinition}
use Rattle.sap_origin.specs.Meant.{Means, means_nil, means_parallel, means_replicated, means_act, means_test, means_lookup, means_use, definition_of}
use Rattle.sap_origin.specs.Reached.{IsForm, Standing, Reaches, reaches_here, reaches_use, reaches_left, reaches_right, reaches_copy, reaches_behind, reaches_then, reaches_else, reaches_found, reaches_missing, entered, process_at, process_below}

-- one comes to a written place, and it means this
pub record Found (ds : List LocatedDefinition) (s : Standing) (p : Located) (path : List ℕ) (y : Proc) : Type 0 where
  pub standing : Standing
  pub place : Located
  pub reached : Reaches ds s p path standing place
  pub form : IsForm place
  pub means : Means ds place y

same_proc : {ds : List LocatedDefinition} {p : Located} {x y : Proc} → Means ds p x → ◌≡◌ {A = Option Proc} (Some x) (Some y) → Means ds p y
same_proc {ds = ds} {p = p} {x = x} {y = y} m e = let is : x ≡ y = cc (e) in subst (λ (z : Proc). Means ds p z) is m

here : {ds : List LocatedDefinition} {s : Standing} {p : Located} {x y : Proc} → IsForm p → Means ds p x → ◌≡◌ {A = Option Proc} (Some x) (Some y) → Found ds s p [] y
here {s = s} {p = p} f m e = record { standing = s; place = p; reached = reaches_here f; form = f; means = same_proc m e }

-- nothing has a place at other digits
nowhere : {A : Type 0} {y : Proc} (path : List ℕ) → process_below None path ≡ Some y → A
nowhere [] e = absurd (cc (e))
nowhere (e ∷ path) h = absurd (cc (h))

-- what one comes to is there
pub record IsThere (ds : List LocatedDefinition) (x : Proc) (path : List ℕ) (q : Located) : Type 0 where
  pub process : Proc
  pub stands : process_at x path ≡ Some process
  pub means : Means ds q process

def_is : {d e : LocatedDefinition} → ◌≡◌ {A = Option LocatedDefinition} (Some d) (Some e) → d ≡ e
def_is h = cc (h)

module _ {ds : List LocatedDefinition} where
  through : {s : Standing} {k : ℕ} {f : List ℕ} {ts : List Tree} {d : LocatedDefinition} {path : List ℕ} {y : Proc} → definition_of ds f ≡ Some d → Found ds (entered s k d) d.body path y
      → Found ds s (call_at k f ts) path y
  through e h = record { standing = h.standing; place = h.place; reached = reaches_use e tt h.reached; form = h.form; means = h.means }

  pub found : (s : Standing) {p : Located} {x y : Proc} (path : List ℕ) → Means ds p x → process_at x path ≡ Some y → Found ds s p path y
  found s path (means_use {k = k} {d = d} e m) h = through e (found (entered s k d) path m h)
  found s [] means_nil h = here tt means_nil h
  found s [] (means_parallel m n) h = here tt (means_parallel m n) h
  found s [] (means_replicated m) h = here tt (means_replicated m) h
  found s [] (means_act r b e m) h = here tt (means_act r b e m) h
  found s [] (means_test r e f m n) h = here tt (means_test r e f m n) h
  found s [] (means_lookup r b e f m n) h = here tt (means_lookup r b e f m n) h
  found s (zero ∷ path) means_nil h = nowhere path h
  found s (suc zero ∷ path) means_nil h = nowhere path h
  found s (suc (suc zero) ∷ path) means_nil h = nowhere path h
  found s (suc (suc (suc k)) ∷ path) means_nil h = nowhere path h
  found s (zero ∷ path) (means_parallel m n) h = nowhere path h
  found s (suc zero ∷ path) (means_parallel m n) h = let r = found s path m h in record { standing = r.standing; place = r.place; reached = reaches_left r.reached; form = r.form; means = r.means }
  found s (suc (suc zero) ∷ path) (means_parallel m n) h = let r = found s path n h in record { standing = r.standing; place = r.place; reached = reaches_right r.reached; form = r.form; means = r.means }
  found s (suc (suc (suc k)) ∷ path) (means_parallel m n) h = nowhere path h
  found s (zero ∷ path) (means_replicated m) h = nowhere path h
  found s (suc zero ∷ path) (means_replicated m) h = let r = found s path m h in record { standing = r.standing; place = r.place; reached = reaches_copy r.reached; form = r.form; means = r.means }
  found s (suc (suc zero) ∷ path) (means_replicated m) h = nowhere path h
  found s (suc (suc (suc k)) ∷ path) (means_replicated m) h = nowhere path h
  found s (zero ∷ path) (means_act c b e m) h = nowhere path h
  found s (suc zero ∷ path) (means_act c b e m) h = let r = found s path m h in record { standing = r.standing; place = r.place; reached = reaches_behind r.reached; form = r.form; means = r.means }
  found s (suc (suc zero) ∷ path) (means_act c b e m) h = nowhere path h
  found s (suc (suc (suc k)) ∷ path) (means_act c b e m) h = nowhere path h
  found s (zero ∷ path) (means_test c e f m n) h = nowhere path h
  found s (suc zero ∷ path) (means_test c e f m n) h = let r = found s path m h in record { standing = r.standing; place = r.place; reached = reaches_then r.reached; form = r.form; means = r.means }
  found s (suc (suc zero) ∷ path) (means_test c e f m n) h = let r = found s path n h in record { standing = r.standing; place = r.place; reached = reaches_else r.reached; form = r.form; means = r.means }
  found s (suc (suc (suc k)) ∷ path) (means_test c e f m n) h = nowhere path h
  found s (zero ∷ path) (means_lookup c b e f m n) h = nowhere path h
  found s (suc zero ∷ path) (means_lookup c b e f m n) h = let r = found s path m h in record { standing = r.standing; place = r.place; reached = reaches_found r.reached; form = r.form; means = r.means }
  found s (suc (suc zero) ∷ path) (means_lookup c b e f m n) h = let r = found s path n h in record { standing = r.standing; place = r.place; reached = reaches_missing r.reached; form = r.form; means = r.means }
  found s (suc (suc (suc k)) ∷ path) (means_lookup c b e f m n) h = nowhere path h

  pub there : {s z : Standing} {p q : Located} {x : Proc} {path : List ℕ} → Means ds p x → Reaches ds s p path z q → IsThere ds x path q
  there {x = x} m (reaches_here f) = record { process = x; stands = refl; means = m }
  there {x = x} (means_use {d = c} e m) (reaches_use {d = d} g r h) =
      there (subst (λ (b : LocatedDefinition). Means ds b.body x) (def_is (sym e ∙ g)) m) h
  there (means_parallel m n) (reaches_left h) = let r = there m h in record { process = r.process; stands = r.stands; means = r.means }
  there (means_parallel m n) (reaches_right h) = let r = there n h in record { process = r.process; stands = r.stands; means = r.means }
  there (means_replicated m) (reaches_copy h) = let r = there m h in record { process = r.process; stands = r.stands; means = r.means }
  there (means_act c b e m) (reaches_behind h) = let r = there m h in record { process = r.process; stands = r.stands; means = r.means }
  there (means_test c e f m n) (reaches_then h) = let r = there m h in record { process = r.process; stands = r.stands; means = r.means }
  there (means_test c e f m n) (reaches_else h) = let r = there n h in record { process = r.process; stands = r.stands; means = r.means }
  there (means_lookup c b e f m n) (reaches_found h) = let r = there m h in record { process = r.process; stands = r.stands; means = r.means }
  there (means_lookup c b e f m n) (reaches_missing h) = let r = there n h in record { process = r.process; stands = r.stands; means = r.means }
