-- A file that is refused for a cause with another place has that place.
use Rattle.std.proofs.Common.{◌≡◌, ◌+◌, ℕ, false, List, [], ◌∷◌, length, refl, subst, Option, Some, None, ◌⊎◌, inl, inr}
use Rattle.std.specs.Prelude.{IfOk, Result, Ok, Err, ⊤, is_none, if◌then◌else◌, map, option_map, slice_get}
use Rattle.sap_terms.specs.Signature.{find_symbol, pairs_alone}
use Rattle.sap_text.specs.declared.token.Token.{Token}
use Rattle.sap_grammar.specs.Cut.{Placed}
use Rattle.sap_grammar.specs.Signatures.{clash_from}
use Rattle.sap_locks.specs.Annotation.{without, over}
use Rattle.sap_restrict.specs.Restrictions.{is_generated}
use Rattle.sap_statements.specs.Statements.{name_of}
use Rattle.sap_read.specs.Causes.{cause_of, fault_of_uses, first_of, first_repeated, first_taken, labels, unknown_from, unlabelled}
use Rattle.sap_read.specs.FileProcess.{IsUnexpanded}
use Rattle.sap_read.specs.Files.{AreTokens, FileContent, IsParted, IsRead, no_tokens, no_header, no_item, refused, unexpanded, ill, locked, unchecked, accepted}
use Rattle.sap_read.specs.Item.{Body, Standing, bodies, declarations, signature_of, statements}
use Rattle.sap_read.specs.ItemGrammar.{AreItems}
use Rattle.sap_read.specs.declared.fault.ReadFault.{ReadFault}
use Rattle.sap_read.specs.declared.fault.ReadFault.TheVariants.{Arguments, DuplicateName, FunctionClash, NoProcess, Parameters, TwoProcesses, UnknownProcess}
use Rattle.sap_uses.specs.declared.fault.MacroFault.{MacroFault}
use Rattle.sap_uses.specs.declared.fault.MacroFault.TheVariants as uses
use Rattle.sap_stretches.specs.Stretches.{stretch_at}
use Rattle.sap_stretches.specs.declared.stretch.Stretch.{Stretch}
use Rattle.sap_where.specs.declared.find.Beginning.TheVariants.{Definition, Process, Statement}
use Rattle.sap_where.specs.FileDeclarations.{declared_before}
use Rattle.sap_where.specs.OtherPlaces.{HasOtherStretch, IsOtherWhere, IsTakenFirstAt, declarations_have_first, first_definition, first_name, first_process, first_statement, its_definition, names_have_first, parameters_have_first, processes_have_first, uses_have_definition}
use Rattle.sap_where.specs.Parameters.{IsParameter}
use Rattle.sap_where.specs.Where.{BeginsAt, HoldsOnce, IsFirst, IsSecond}
use Rattle.sap_where.proofs.Faults.{tells}
use Rattle.sap_where.proofs.FirstCauses.{because}
use Rattle.sap_where.proofs.FirstOfTwo.{first_of_second}
use Rattle.sap_where.proofs.ItemNames.{HasTwo, defined_name, two_definitions, two_processes}
use Rattle.sap_where.proofs.ParameterFiles as parameters
use Rattle.sap_where.proofs.StatedTwice.{two_statements}
use Rattle.sap_where.proofs.TakenFiles.{decided, first_there, second_begins, second_or_once}
use Rattle.sap_where.proofs.UsedNames.{other_defined}

-- what a refusal says of the other place of its cause
abbrev TellsOther : List ℕ → ReadFault → Type 0
TellsOther z (TwoProcesses n) = (ts : List Token) × AreTokens z ts × (k : ℕ) × IsSecond (BeginsAt z ts Process []) k
TellsOther z (DuplicateName x) = is_generated x ≡ false → (ts : List Token) × AreTokens z ts × (j : ℕ) × IsTakenFirstAt z ts x j
TellsOther z (Arguments x) = (ts : List Token) × AreTokens z ts × (j : ℕ) × IsFirst (BeginsAt z ts Definition x) j
TellsOther z _ = ⊤

-- the same of an answer
abbrev TellsOfAnswer : List ℕ → Result FileContent ReadFault → Type 0
TellsOfAnswer z (Ok f) = ⊤
TellsOfAnswer z (Err e) = TellsOther z e

-- of two definitions, and of two restrictions or lemmas, the first has the name that is taken
first_of_definitions : (z : List ℕ) (ts : List Token) (x : List ℕ) → HasTwo (BeginsAt z ts Definition x) → (j : ℕ) × IsTakenFirstAt z ts x j
first_of_definitions z ts x h =
    let s = second_begins z ts Definition x h in
    (s.1.first, first_definition s.1 (first_of_second (BeginsAt z ts Definition x) s.0 s.1))

first_of_statements : (z : List ℕ) (ts : List Token) (x : List ℕ) → HasTwo (BeginsAt z ts Statement x) → (j : ℕ) × IsTakenFirstAt z ts x j
first_of_statements z ts x h =
    by (second_or_once (BeginsAt z ts Definition x) (decided z ts Definition x) (length ts) (λ i p. p.inside)) (second_begins z ts Statement x h)
  where
    by : ((k : ℕ) × IsSecond (BeginsAt z ts Definition x) k) ⊎ HoldsOnce (BeginsAt z ts Definition x)
        → ((k : ℕ) × IsSecond (BeginsAt z ts Statement x) k) → (j : ℕ) × IsTakenFirstAt z ts x j
    by (inl s) t = (s.1.first, first_definition s.1 (first_of_second (BeginsAt z ts Definition x) s.0 s.1))
    by (inr once) t = (t.1.first, first_statement once t.1 (first_of_second (BeginsAt z ts Statement x) t.0 t.1))

-- where no cause holds before uses are looked at each name that is used is defined
third_none : (a b c : Option ReadFault) (os : List (Option ReadFault)) → first_of (a ∷ b ∷ c ∷ os) ≡ None → c ≡ None
third_none None None None os e = refl
third_none None None (Some x) os e = absurd (cc (e))
third_none None (Some x) c os e = absurd (cc (e))
third_none (Some x) b c os e = absurd (cc (e))

no_name : (o : Option (List ℕ)) → option_map UnknownProcess o ≡ None → o ≡ None
no_name None e = refl
no_name (Some x) e = absurd (cc (e))

none_unknown : (is : List Standing) → cause_of is ≡ None → unknown_from [] (bodies is) ≡ None
none_unknown is e =
    let bs = bodies is in
    no_name (unknown_from [] bs)
    (third_none (if is_none (slice_get (unlabelled bs) 0) then Some NoProcess else None) (option_map (λ (b : Body). TwoProcesses b.line) (slice_get (unlabelled bs) 1))
    (option_map UnknownProcess (unknown_from [] bs))
    (option_map DuplicateName (first_repeated (labels bs)) ∷ option_map DuplicateName (first_taken is_generated (map name_of (statements is)))
    ∷ option_map FunctionClash (clash_from pairs_alone (declarations is)) ∷ []) e)

tells_uses : {z : List ℕ} {ts : List Token} {x : List ℕ} {cut : List (List Placed)} {is : List Standing} (f : MacroFault) → IsParted z ts x cut
    → AreItems (signature_of is) cut is → cause_of is ≡ None → IsUnexpanded (signature_of is) (bodies is) f → TellsOther z (fault_of_uses f)
tells_uses uses.Mem p a c u = tt
tells_uses (uses.Parameters x) p a c u = tt
tells_uses {z = z} {ts = ts} {is = is} (uses.Arguments x) p a c u =
    let defined = other_defined (bodies is) u.main x u.is_main (none_unknown is c) u.cause.holds in
    let there = defined_name z ts p a x defined in
    let first = first_there (BeginsAt z ts Definition x) (decided z ts Definition x) there.number there.is in
    (ts, p.tokens, first.0, first.1)
tells_uses uses.TooMany p a c u = tt
tells_uses uses.TooDeep p a c u = tt
tells_uses (uses.Large x) p a c u = tt
tells_uses (uses.Flawed x w q) p a c u = tt

tells_other : {z : List ℕ} {o : Result FileContent ReadFault} → IsRead z o → TellsOfAnswer z o
tells_other (no_tokens l) = tt
tells_other (no_header a n) = tt
tells_other (no_item p f) = tt
tells_other {z = z} (refused {ts = ts} {is = is} {e = e} p a c) =
    because (λ f. TellsOther z f) is e tt (λ b f. let s = second_begins z ts Process [] (two_processes z ts p a b f) in (ts, p.tokens, s.0, s.1)) (λ x f. tt)
    (λ x f g. let s = first_of_definitions z ts x (two_definitions z ts p a x f) in (ts, p.tokens, s.0, s.1))
    (λ x f g. let s = first_of_statements z ts x (two_statements z ts is_generated x g p a f) in (ts, p.tokens, s.0, s.1))
    (λ x f. tt) c
tells_other (unexpanded {f = f} p a c u) = tells_uses f p a c u
tells_other (ill p a c q f) = tt
tells_other (locked {w = without} p a c q w f) = tt
tells_other (locked {w = over} p a c q w f) = tt
tells_other (unchecked p a c q w n f) = tt
tells_other (accepted p a c q w n f) = tt

-- where nothing is told of such a cause, the file isn't refused for it
pub other_stands : (z : List ℕ) (ts : List Token) (e : ReadFault) (o : Option Stretch) → ((us : List Token) → AreTokens z us → us ≡ ts)
    → ((x : List ℕ) → e ≡ Parameters x → o ≡ None → (i : ℕ) → HoldsOnce (IsParameter z ts x i))
    → ((x : List ℕ) → e ≡ FunctionClash x → find_symbol pairs_alone.symbols x ≡ None → clash_from pairs_alone (declared_before z ts (length ts)) ≡ Some x → o ≡ None → ⊥)
    → (o ≡ None → (s : Stretch) → IsOtherWhere z e s → ⊥) → HasOtherStretch e → IsRead z (Err e) → o ≡ None → ⊥
other_stands z ts e o only once clash nowhere (processes_have_first line) r none =
    let t = tells_other r in nowhere none (stretch_at t.0 t.3.first) (first_process t.1 t.3 (first_of_second (BeginsAt z t.0 Process []) t.2 t.3) refl)
other_stands z ts e o only once clash nowhere (names_have_first x g) r none =
    let t = tells_other r g in nowhere none (stretch_at t.0 (t.2 + 1)) (first_name t.1 t.3 refl)
other_stands z ts e o only once clash nowhere (parameters_have_first x) r none =
    let t = tells r in
    let two = subst (λ (us : List Token). parameters.HasTwo z us x) (only t.0 t.1) t.2 in
    once x refl none two.item two.first two.second two.order two.is_first two.is_second
other_stands z ts e o only once clash nowhere (declarations_have_first x pairs) r none =
    let t = tells r in
    clash x refl pairs (subst (λ (us : List Token). clash_from pairs_alone (declared_before z us (length us)) ≡ Some x) (only t.0 t.1) t.2) none
other_stands z ts e o only once clash nowhere (uses_have_definition x) r none =
    let t = tells_other r in nowhere none (stretch_at t.0 (t.2 + 1)) (its_definition t.1 t.3 refl)

pub stands_somewhere : {E : Type 0} (z : List ℕ) (ts : List Token) (e : ReadFault) (r : Result (Option Stretch) E) → ((us : List Token) → AreTokens z us → us ≡ ts)
    → IfOk r (λ o. (x : List ℕ) → e ≡ Parameters x → o ≡ None → (i : ℕ) → HoldsOnce (IsParameter z ts x i))
    → IfOk r (λ o. (x : List ℕ) → e ≡ FunctionClash x → find_symbol pairs_alone.symbols x ≡ None → clash_from pairs_alone (declared_before z ts (length ts)) ≡ Some x → o ≡ None → ⊥)
    → IfOk r (λ o. o ≡ None → (s : Stretch) → IsOtherWhere z e s → ⊥) → HasOtherStretch e → IsRead z (Err e) → IfOk r (λ o. o ≡ None → ⊥)
stands_somewhere z ts e (Ok o) only once clash nowhere h r = other_stands z ts e o only once clash nowhere h r
stands_somewhere z ts e (Err m) only once clash nowhere h r = tt
