-- The fault that counts.
use Rattle.std.proofs.Common.{◌≡◌, ℕ, zero, suc, ◌<◌, ◌≤◌, List, [], ◌∷◌, Bool, true, false, Option, Some, None, Result, Ok, Err, inl, inr, arith, refl, sym, ap, subst, ◌∙◌}
use Rattle.std.specs.Prelude.{◌⊎◌, IsErrOf, slice_get, if◌then◌else◌}
use Rattle.std.proofs.lemmas.Bool.{cases_lt}
use Rattle.sap_formula.specs.Form.{Form}
use Rattle.sap_terms.specs.Signature.{Sig}
use Rattle.sap_formula.specs.Faults.{HasFault, HasNoFault, IsFaultAt, IsFirstFault, rank, told}
use Rattle.sap_formula.specs.Laws.{SomeFaultLaw}
use Rattle.sap_formula.specs.Parts.{Part, part_name, form_parts}
use Rattle.sap_formula.specs.code.Tests.{has_fault, first_name, with_fault, first_fault}
use Rattle.sap_formula.specs.declared.fault.FormulaFlaw.{FormulaFlaw}
use Rattle.sap_formula.specs.declared.fault.FormulaFlaw.TheVariants.{BadFunction, Destructor, Reserved, UnboundVar, Unguarded}
use Rattle.sap_formula.specs.declared.fault.FormulaFault.{FormulaFault}
use Rattle.sap_formula.specs.declared.fault.FormulaFault.TheVariants.{Mem, BadFunction as ABadFunction, Destructor as ADestructor, Reserved as AReserved, UnboundVar as AnUnboundVar, Unguarded as AnUnguarded}
use Rattle.sap_formula.proofs.PartTests.{fault_decided}

-- a test that fails
no_fault : (g : Sig) (r : Bool) (w : FormulaFlaw) (p : Part) → has_fault g r w p ≡ false → HasFault g r w p → ⊥
no_fault g r w p d f = let e = (fault_decided g r w p).1 f in absurd (cc)

-- none of the parts has the fault
abbrev NonePart : Sig → Bool → FormulaFlaw → List Part → Type 0
NonePart g r w ps = (k : ℕ) (p : Part) → slice_get ps k ≡ Some p → HasFault g r w p → ⊥

none-more : (g : Sig) (r : Bool) (w : FormulaFlaw) (x : Part) (ps : List Part) → (HasFault g r w x → ⊥) → NonePart g r w ps → NonePart g r w (x ∷ ps)
none-more g r w x ps here later zero p e f = let same : x ≡ p = cc in here (subst (HasFault g r w) (sym same) f)
none-more g r w x ps here later (suc k) p e f = later k p e f

none-found : (g : Sig) (r : Bool) (w : FormulaFlaw) (ps : List Part) → first_name g r w ps ≡ None → NonePart g r w ps
none-found g r w [] h = λ k p e f. absurd (cc)
none-found g r w (x ∷ ps) h = by (has_fault g r w x) refl h (none-found g r w ps) where
  by : (b : Bool) → has_fault g r w x ≡ b → (if b then Some (part_name x) else first_name g r w ps) ≡ None → (first_name g r w ps ≡ None → NonePart g r w ps) → NonePart g r w (x ∷ ps)
  by true d e later = absurd (cc)
  by false d e later = none-more g r w x ps (no_fault g r w x d) (later e)

-- the first part that has it
record FirstOf (g : Sig) (r : Bool) (w : FormulaFlaw) (ps : List Part) (name : List ℕ) : Type 0 where
  at : ℕ
  part : Part
  stands : slice_get ps at ≡ Some part
  fault : HasFault g r w part
  name_is : part_name part ≡ name
  first : (k : ℕ) (p : Part) → k < at → slice_get ps k ≡ Some p → HasFault g r w p → ⊥

first-more : (g : Sig) (r : Bool) (w : FormulaFlaw) (x : Part) (ps : List Part) (n : List ℕ) → (HasFault g r w x → ⊥) → FirstOf g r w ps n → FirstOf g r w (x ∷ ps) n
first-more g r w x ps n here of = record {
  at = suc of.at;
  part = of.part;
  stands = of.stands;
  fault = of.fault;
  name_is = of.name_is;
  first = earlier;
}
  where
    earlier : (k : ℕ) (p : Part) → k < suc of.at → slice_get (x ∷ ps) k ≡ Some p → HasFault g r w p → ⊥
    earlier zero p l e f = let same : x ≡ p = cc in here (subst (HasFault g r w) (sym same) f)
    earlier (suc k) p l e f = of.first k p (omega arith) e f

first-found : (g : Sig) (r : Bool) (w : FormulaFlaw) (ps : List Part) (n : List ℕ) → first_name g r w ps ≡ Some n → FirstOf g r w ps n
first-found g r w [] n h = absurd (cc)
first-found g r w (x ∷ ps) n h = by (has_fault g r w x) refl h (first-found g r w ps n) where
  by : (b : Bool) → has_fault g r w x ≡ b → (if b then Some (part_name x) else first_name g r w ps) ≡ Some n → (first_name g r w ps ≡ Some n → FirstOf g r w ps n) → FirstOf g r w (x ∷ ps) n
  by true d e later = record {
    at = 0;
    part = x;
    stands = refl;
    fault = (fault_decided g r w x).0 d;
    name_is = cc;
    first = λ k p l e f. absurd (omega arith);
  }
  by false d e later = first-more g r w x ps n (no_fault g r w x d) (later e)

nowhere : (g : Sig) (r : Bool) (f : Form) (w : FormulaFlaw) → first_name g r w (form_parts [] f) ≡ None → (k : ℕ) → ¬ IsFaultAt g r f w k
nowhere g r f w h k a = none-found g r w (form_parts [] f) h k a.part a.stands a.fault

-- no fault of a rank below n was found
abbrev NoneUpTo : Sig → Bool → Form → ℕ → Type 0
NoneUpTo g r f n = (u : FormulaFlaw) → rank u < n → first_name g r u (form_parts [] f) ≡ None

ends-at : (g : Sig) (r : Bool) (f : Form) (w : FormulaFlaw) (n : List ℕ) → first_name g r w (form_parts [] f) ≡ Some n → NoneUpTo g r f (rank w) → IsFirstFault g r f w n
ends-at g r f w n h least =
    let of = first-found g r w (form_parts [] f) n h in
    record {
      at = of.at;
      here = record { part = of.part; stands = of.stands; fault = of.fault };
      name_is = of.name_is;
      first = λ k l a. of.first k a.part l a.stands a.fault;
      least = λ u l. nowhere g r f u (least u l);
    }

rank-low : (w : FormulaFlaw) → rank w < 6
rank-low BadFunction = omega arith
rank-low Destructor = omega arith
rank-low Reserved = omega arith
rank-low UnboundVar = omega arith
rank-low Unguarded = omega arith

rank-positive : (w : FormulaFlaw) → 0 < rank w
rank-positive BadFunction = omega arith
rank-positive Destructor = omega arith
rank-positive Reserved = omega arith
rank-positive UnboundVar = omega arith
rank-positive Unguarded = omega arith

-- the fault of a rank
abbrev pub ranked : ℕ → FormulaFlaw
ranked (suc (suc zero)) = Destructor
ranked (suc (suc (suc zero))) = Reserved
ranked (suc (suc (suc (suc zero)))) = UnboundVar
ranked (suc (suc (suc (suc (suc zero))))) = Unguarded
ranked _ = BadFunction

pub ranked-rank : (w : FormulaFlaw) → ranked (rank w) ≡ w
ranked-rank BadFunction = refl
ranked-rank Destructor = refl
ranked-rank Reserved = refl
ranked-rank UnboundVar = refl
ranked-rank Unguarded = refl

none-next : (g : Sig) (r : Bool) (f : Form) (w : FormulaFlaw) (n : ℕ) → rank w ≡ n → NoneUpTo g r f n → first_name g r w (form_parts [] f) ≡ None → NoneUpTo g r f (suc n)
none-next g r f w n at none h u l = by (cases_lt (rank u) n) where
  by : (rank u < n) ⊎ (n ≤ rank u) → first_name g r u (form_parts [] f) ≡ None
  by (inl low) = none u low
  by (inr high) =
      let same : rank w ≡ rank u = omega arith in
      let equal : w ≡ u = sym (ranked-rank w) ∙ ap ranked same ∙ ranked-rank u in
      subst (λ (z : FormulaFlaw). first_name g r z (form_parts [] f) ≡ None) equal h

-- the faults have the ranks from n on, up to the last
abbrev Ascend : ℕ → List FormulaFlaw → Type 0
Ascend n [] = n ≡ 6
Ascend n (w ∷ ws) = (rank w ≡ n) × Ascend (suc n) ws

none-of : (g : Sig) (r : Bool) (f : Form) (ws : List FormulaFlaw) (n : ℕ) → Ascend n ws → NoneUpTo g r f n → first_fault g r ws (form_parts [] f) ≡ None → NoneUpTo g r f 6
none-of g r f [] n at none h = subst (NoneUpTo g r f) at none
none-of g r f (w ∷ ws) n at none h = by (first_name g r w (form_parts [] f)) refl h (none-of g r f ws (suc n) at.1) where
  by : (o : Option (List ℕ)) → first_name g r w (form_parts [] f) ≡ o → with_fault w o (first_fault g r ws (form_parts [] f)) ≡ None
      → (NoneUpTo g r f (suc n) → first_fault g r ws (form_parts [] f) ≡ None → NoneUpTo g r f 6) → NoneUpTo g r f 6
  by None d e later = later (none-next g r f w n at.0 none d) e
  by (Some m) d e later = absurd (cc)

abbrev flaw_in : FormulaFlaw → Option (FormulaFlaw × List ℕ) → FormulaFlaw
flaw_in w None = w
flaw_in w (Some found) = found.0

abbrev name_in : Option (FormulaFlaw × List ℕ) → List ℕ
name_in None = []
name_in (Some found) = found.1

pair-parts : (w u : FormulaFlaw) (a b : List ℕ) → ◌≡◌ {A = Option (FormulaFlaw × List ℕ)} (Some (w, a)) (Some (u, b)) → (w ≡ u) × (a ≡ b)
pair-parts w u a b e = (ap (flaw_in w) e, ap name_in e)

one-of : (g : Sig) (r : Bool) (f : Form) (ws : List FormulaFlaw) (n : ℕ) (u : FormulaFlaw) (name : List ℕ) → Ascend n ws → NoneUpTo g r f n → first_fault g r ws (form_parts [] f) ≡ Some (u, name) → IsFirstFault g r f u name
one-of g r f [] n u name at none h = absurd (cc)
one-of g r f (w ∷ ws) n u name at none h = by (first_name g r w (form_parts [] f)) refl h (one-of g r f ws (suc n) u name at.1) where
  here : (m : List ℕ) → first_name g r w (form_parts [] f) ≡ Some m → w ≡ u → m ≡ name → IsFirstFault g r f u name
  here m d same ends =
      subst (λ (z : FormulaFlaw). IsFirstFault g r f z name) same (subst (IsFirstFault g r f w) ends (ends-at g r f w m d (subst (NoneUpTo g r f) (sym at.0) none)))

  by : (o : Option (List ℕ)) → first_name g r w (form_parts [] f) ≡ o → with_fault w o (first_fault g r ws (form_parts [] f)) ≡ Some (u, name)
      → (NoneUpTo g r f (suc n) → first_fault g r ws (form_parts [] f) ≡ Some (u, name) → IsFirstFault g r f u name) → IsFirstFault g r f u name
  by None d e later = later (none-next g r f w n at.0 none d) e
  by (Some m) d e later = let parts = pair-parts w u m name e in here m d parts.0 parts.1

abbrev flaws : List FormulaFlaw
flaws = BadFunction ∷ Destructor ∷ Reserved ∷ UnboundVar ∷ Unguarded ∷ []

ascending : Ascend 1 flaws
ascending = (refl, (refl, (refl, (refl, (refl, refl)))))

none-below : (g : Sig) (r : Bool) (f : Form) → NoneUpTo g r f 1
none-below g r f u l = absurd (omega (arith, rank-positive u))

-- where a search for the faults in their order finds none, there is none
pub faultless : (g : Sig) (r : Bool) (f : Form) → first_fault g r flaws (form_parts [] f) ≡ None → HasNoFault g r f
faultless g r f h w = nowhere g r f w (none-of g r f flaws 1 ascending (none-below g r f) h w (rank-low w))

abbrev flaw_of : FormulaFault → FormulaFlaw
flaw_of Mem = BadFunction
flaw_of (ABadFunction n) = BadFunction
flaw_of (ADestructor n) = Destructor
flaw_of (AReserved n) = Reserved
flaw_of (AnUnboundVar n) = UnboundVar
flaw_of (AnUnguarded n) = Unguarded

abbrev name_of : FormulaFault → List ℕ
name_of Mem = []
name_of (ABadFunction n) = n
name_of (ADestructor n) = n
name_of (AReserved n) = n
name_of (AnUnboundVar n) = n
name_of (AnUnguarded n) = n

flaw-told : (w : FormulaFlaw) (n : List ℕ) → flaw_of (told w n) ≡ w
flaw-told BadFunction n = refl
flaw-told Destructor n = refl
flaw-told Reserved n = refl
flaw-told UnboundVar n = refl
flaw-told Unguarded n = refl

name-told : (w : FormulaFlaw) (n : List ℕ) → name_of (told w n) ≡ n
name-told BadFunction n = refl
name-told Destructor n = refl
name-told Reserved n = refl
name-told UnboundVar n = refl
name-told Unguarded n = refl

abbrev error_in : {T : Type 0} → Result T FormulaFault → FormulaFault
error_in (Ok x) = Mem
error_in (Err e) = e

-- and one that is found counts
pub found-counts : (g : Sig) (r : Bool) (f : Form) (u : FormulaFlaw) (found : List ℕ) → first_fault g r flaws (form_parts [] f) ≡ Some (u, found) → IsFirstFault g r f u found
found-counts g r f u found h = one-of g r f flaws 1 u found ascending (none-below g r f) h

-- so a formula has no fault, or one that counts
pub some_fault : SomeFaultLaw
some_fault g r f = by (first_fault g r flaws (form_parts [] f)) refl
  where
    by : (o : Option (FormulaFlaw × List ℕ)) → first_fault g r flaws (form_parts [] f) ≡ o → HasNoFault g r f ⊎ ((w : FormulaFlaw) × (name : List ℕ) × IsFirstFault g r f w name)
    by None h = inl (faultless g r f h)
    by (Some found) h = inr (found.0, found.1, found-counts g r f found.0 found.1 h)

-- and one that is found and told counts
pub first-counts : {T : Type 0} (g : Sig) (r : Bool) (f : Form) (u w : FormulaFlaw) (found name : List ℕ) (x : FormulaFault) → first_fault g r flaws (form_parts [] f) ≡ Some (u, found) → x ≡ told u found → IsErrOf {T = T} {E = FormulaFault} (Err x) (told w name) → IsFirstFault g r f w name
first-counts {T} g r f u w found name x h t e =
    let same : told u found ≡ told w name = sym t ∙ ap (error_in {T = T}) e in
    let flaw : u ≡ w = sym (flaw-told u found) ∙ ap flaw_of same ∙ flaw-told w name in
    let names : found ≡ name = sym (name-told u found) ∙ ap name_of same ∙ name-told w name in
    subst (λ (z : FormulaFlaw). IsFirstFault g r f z name) flaw (subst (IsFirstFault g r f u) names (found-counts g r f u found h))
