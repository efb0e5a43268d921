-- The worked examples of reasons.
use Rattle.std.proofs.Common.{◌≡◌, ℕ, ◌+◌, List, [], ◌∷◌, Bool, true, false, Option, Some, None, map, refl, sym, ap, subst, ◌∙◌, inl, inr}
use Rattle.std.proofs.lemmas.List.Elements.{All-cons, All-nil}
use Rattle.std.specs.Prelude.{codes}
use Rattle.std.specs.Str.{bytes_eq}
use Rattle.sap_formula.specs.Examples.{a, b, i, j, x}
use Rattle.sap_formula.specs.Form.{Form, both, either, equivalent, exists, implies, negation, truth}
use Rattle.sap_formula.specs.Laws.{Allowed, IsClosed}
use Rattle.sap_formula.specs.Checked.{IsChecked}
use Rattle.sap_formula.specs.Truth.{EachIn}
use Rattle.sap_formula.specs.declared.binder.Binder.TheVariants.{Message, Time}
use Rattle.sap_judge.specs.Laws.{OneReasonLaw}
use Rattle.sap_judge.specs.ReasonExamples.{both_guards, fact_of, known, leak, leaked, no_reasons, nothing, reasons, secret, time_is, turned, x_is}
use Rattle.sap_judge.specs.Reasons.{Explains, IsReason}
use Rattle.sap_judge.specs.code.Claiming.{ClaimLaw, claim_of}
use Rattle.sap_judge.specs.declared.extent.Extent.TheVariants.{Whole}
use Rattle.sap_match.specs.Atoms.{Held, held_term, held_time}
use Rattle.sap_search.specs.Claims.{Chosen}
use Rattle.sap_search.specs.Explained.{explained}
use Rattle.sap_terms.specs.Laws.{LeavesAreNormal}
use Rattle.sap_terms.specs.Equations.{equations}
use Rattle.sap_terms.specs.Message.{AreMessageFacts, IsMessage, IsMessageFact, IsMessageTrace}
use Rattle.sap_terms.specs.Signature.{Sig}
use Rattle.sap_terms.specs.Tree.{Tree, apply, fresh, public, variable}
use Rattle.sap_terms.specs.declared.fact.Fact.{Fact}
use Rattle.sap_terms.specs.declared.var.Sort.TheVariants.{Msg}

-- the trace has messages

leaf : LeavesAreNormal → (g : Sig) (n : List ℕ) → IsMessage g Msg (public n)
leaf w g n = record { ground = tt; over = tt; normal = w.of_public_name (equations g) n; sorted = refl }

one_fact : LeavesAreNormal → (g : Sig) (n m : List ℕ) → IsMessageFact g (fact_of n (public m))
one_fact w g n m = All-cons (IsMessage g Msg) (public m) [] (leaf w g m) (All-nil (IsMessage g Msg))

facts : (g : Sig) (fs : List Fact) → EachIn (IsMessageFact g) fs → AreMessageFacts g fs
facts g [] e = All-nil (IsMessageFact g)
facts g (f ∷ fs) e = All-cons (IsMessageFact g) f fs e.0 (facts g fs e.1)

times : (g : Sig) (ps : List (List Fact)) → EachIn (EachIn (IsMessageFact g)) ps → IsMessageTrace g ps
times g [] e = All-nil (AreMessageFacts g)
times g (p ∷ ps) e = All-cons (AreMessageFacts g) p ps (facts g p e.0) (times g ps e.1)

leak_messages : LeavesAreNormal → (g : Sig) → IsMessageTrace g leak
leak_messages w g =
    times g leak (
      (one_fact w g (codes "A") (codes "a"), (one_fact w g (codes "A") (codes "b"), tt)),
      ((one_fact w g (codes "K") (codes "b"), tt), ((one_fact w g (codes "A") (codes "b"), (one_fact w g (codes "K") (codes "a"), tt)), tt)),
    )

-- the formulas are closed

known_ok : (g : Sig) → IsChecked g (Allowed false) (Time i ∷ Message x ∷ []) known
known_ok g = ((inl refl, tt), (tt, (refl, tt), refl))

leaked_ok : (g : Sig) → IsClosed g leaked
leaked_ok g = ((inl (inr (inl refl)), (inl (inl refl), tt)), ((tt, (refl, tt), refl), known_ok g))

secret_ok : (g : Sig) → IsClosed g secret
secret_ok g = ((inr (inl refl), (inl refl, tt)), ((tt, (refl, tt), refl), known_ok g))

both_ok : (g : Sig) → IsClosed g both_guards
both_ok g = ((inl (inr (inl refl)), (inl (inl refl), (inr (inl refl), tt))), ((tt, (refl, tt), refl), (tt, (refl, tt), refl)))

turned_ok : (g : Sig) → IsClosed g turned
turned_ok g = ((inl (inl refl), (inl (inr (inl refl)), (inr (inl refl), tt))), ((tt, (refl, tt), refl), (tt, (refl, tt), refl)))

nothing_ok : (g : Sig) → IsClosed g nothing
nothing_ok g = ((inr (inl refl), (inl refl, tt)), (tt, (refl, tt), refl))

-- what is found of such a formula is its reason

abbrev Is_found : Form × Bool × List Chosen → Type 0
Is_found e = ((g : Sig) → IsClosed g e.0) × (explained leak (claim_of leak Whole [] e.1 e.0) [] ≡ Some e.2)

found_reason : LeavesAreNormal → ClaimLaw → (f : Form) (b : Bool) (cs : List Chosen) → ((g : Sig) → IsClosed g f) → explained leak (claim_of leak Whole [] b f) [] ≡ Some cs → (g : Sig) → IsReason g f leak b cs
found_reason l w f b cs c e g = (subst (Explains g f leak b) e (w g f leak b (leak_messages l g) (c g))).1

each_found : LeavesAreNormal → ClaimLaw → (es : List (Form × Bool × List Chosen)) → EachIn Is_found es → EachIn (λ e. (g : Sig) → IsReason g e.0 leak e.1 e.2) es
each_found l w [] h = tt
each_found l w (e ∷ es) h = (found_reason l w e.0 e.1 e.2 h.0.0 h.0.1, each_found l w es h.1)

pub reasons_are : LeavesAreNormal → ClaimLaw → EachIn (λ e. (g : Sig) → IsReason g e.0 leak e.1 e.2) reasons
reasons_are l w =
    each_found l w reasons (
      (leaked_ok, refl),
      (
        (leaked_ok, refl),
        (
          (secret_ok, refl),
          (
            (both_ok, refl),
            (
              (turned_ok, refl),
              (
                (λ g. (nothing_ok g, turned_ok g), refl),
                (
                  (λ g. (turned_ok g, leaked_ok g), refl),
                  (
                    (λ g. (leaked_ok g, tt), refl),
                    (
                      (λ g. (turned_ok g, leaked_ok g), refl),
                      (
                        (λ g. (leaked_ok g, nothing_ok g), refl),
                        (
                          (λ g. (secret_ok g, nothing_ok g), refl),
                          (
                            (λ g. (turned_ok g, nothing_ok g), refl),
                            (
                              (λ g. (secret_ok g, nothing_ok g), refl),
                              (
                                (λ g. (nothing_ok g, leaked_ok g), refl),
                                (
                                  (λ g. tt, refl),
                                  (
                                    (nothing_ok, refl),
                                    (
                                      (λ g. (leaked_ok g, turned_ok g), refl),
                                      (
                                        (λ g. ((inl refl, (inr (inl refl), (inl refl, tt))), (tt, (refl, tt), refl)), refl),
                                        tt,
                                      ),
                                    ),
                                  ),
                                ),
                              ),
                            ),
                          ),
                        ),
                      ),
                    ),
                  ),
                ),
              ),
            ),
          ),
        ),
      ),
    )

-- another list is none

abbrev first_byte : List ℕ → ℕ
first_byte [] = 0
first_byte (k ∷ ks) = k

abbrev digit : Held → ℕ
digit (held_term (public n)) = first_byte n
digit (held_term _) = 0
digit (held_time k) = 1000 + k

abbrev digits : List Chosen → List ℕ
digits cs = map (λ c. digit c.value) cs

apart : (cs ds : List Chosen) → bytes_eq (digits cs) (digits ds) ≡ false → bytes_eq (digits ds) (digits ds) ≡ true → cs ≡ ds → ⊥
apart cs ds n y h = let e : false ≡ true = sym n ∙ ap (λ z. bytes_eq (digits z) (digits ds)) h ∙ y in absurd (cc)

-- the one that is
abbrev Is_other : Form × Bool × List Chosen → Type 0
Is_other e = (cs : List Chosen) × ((g : Sig) → IsClosed g e.0) × (explained leak (claim_of leak Whole [] e.1 e.0) [] ≡ Some cs) × (bytes_eq (digits cs) (digits e.2) ≡ false) × (bytes_eq (digits e.2) (digits e.2) ≡ true)

each_other : LeavesAreNormal → ClaimLaw → OneReasonLaw → (es : List (Form × Bool × List Chosen)) → EachIn Is_other es → EachIn (λ e. (g : Sig) → IsReason g e.0 leak e.1 e.2 → ⊥) es
each_other l w one [] h = tt
each_other l w one (e ∷ es) h =
    let o = h.0 in
    (λ g r. apart o.0 e.2 o.3 o.4 (one g e.0 leak e.1 (leak_messages l g) (o.1 g) o.0 e.2 (found_reason l w e.0 e.1 o.0 o.1 o.2 g) r), each_other l w one es h.1)

abbrev first : List Chosen
first = x_is a ∷ time_is i 0 ∷ time_is j 2 ∷ []

abbrev second : List Chosen
second = time_is j 1 ∷ x_is b ∷ time_is i 0 ∷ []

pub others_are_none : LeavesAreNormal → ClaimLaw → OneReasonLaw → EachIn (λ e. (g : Sig) → IsReason g e.0 leak e.1 e.2 → ⊥) no_reasons
others_are_none l w one =
    each_other l w one no_reasons (
      (first, leaked_ok, refl, refl, refl),
      (
        (first, leaked_ok, refl, refl, refl),
        (
          (first, secret_ok, refl, refl, refl),
          (
            (first, leaked_ok, refl, refl, refl),
            (
              (first, leaked_ok, refl, refl, refl),
              (
                (second, turned_ok, refl, refl, refl),
                (
                  (second, turned_ok, refl, refl, refl),
                  (
                    (second, λ g. (nothing_ok g, turned_ok g), refl, refl, refl),
                    (
                      (first, λ g. (leaked_ok g, turned_ok g), refl, refl, refl),
                      (
                        ([], λ g. (leaked_ok g, turned_ok g), refl, refl, refl),
                        tt,
                      ),
                    ),
                  ),
                ),
              ),
            ),
          ),
        ),
      ),
    )
