-- Lines that a short run leaves out, and what they enter.
use Rattle.std.proofs.Common.{◌≡◌, ◌+◌, ℕ, List, [], ◌∷◌, ◌++◌, length, map, Some, None, slice_get, take, arith, refl, sym, ap, subst, ◌∙◌, append-nil, append_assoc, inl, inr}
use Rattle.std.specs.Prelude.{All}
use Rattle.std.proofs.lemmas.List.{length-append}
use Rattle.std.proofs.lemmas.Option.{slice_get_past}
use Rattle.sap_terms.specs.Deduce.{IsDeducible, given}
use Rattle.sap_terms.specs.Equal.{same}
use Rattle.sap_terms.specs.Equations.{equations}
use Rattle.sap_terms.specs.Normal.{IsNormal, IsNormalForm}
use Rattle.sap_terms.specs.Signature.{Sig}
use Rattle.sap_terms.specs.Trace.{Trace}
use Rattle.sap_terms.specs.Tree.{Tree, public, apply, trees_of}
use Rattle.sap_terms.specs.declared.fact.Fact.{Fact}
use Rattle.sap_terms.proofs.PlainLaws.Items.{contains_got}
use Rattle.sap_terms.proofs.PlainLaws.Lists.{take_got}
use Rattle.sap_rewrite.specs.Laws.{FormIsOne}
use Rattle.sap_deduce.specs.Deducing.{EntriesGiveTheSame}
use Rattle.sap_deduce.specs.Entries.{terms_of, AreEntered}
use Rattle.sap_derive.specs.Found.{IsFoundBy, IsFoundIn}
use Rattle.sap_derive.specs.Lines.{Give, no_lines, one_more, IsLine, writes, applies}
use Rattle.sap_derive.specs.Searched.{Searched}
use Rattle.sap_derive.specs.declared.derivation.Derivation.{Derivation}
use Rattle.sap_derive.specs.declared.line.Line.{Line}
use Rattle.sap_derive.specs.declared.line.Line.TheVariants as derived
use Rattle.sap_process.specs.Configuration.{Config, CanGive}
use Rattle.sap_process.specs.Proc.{Proc}
use Rattle.sap_runs.specs.Inner.{InnerAction}
use Rattle.sap_runs.specs.Limits.{HasFewNodes}
use Rattle.sap_runs.specs.Marks.{Mark}
use Rattle.sap_runs.specs.declared.process_step.PStep.{PStep}
use Rattle.sap_runs.specs.declared.process_step.PStep.TheVariants as line
use Rattle.sap_runs.specs.declared.short_step.SStep.{SStep}
use Rattle.sap_lines.specs.Lines.{IsProcessLine}
use Rattle.sap_calc.specs.Running.{Running, configuration}
use Rattle.sap_intruder.specs.FilledRuns.{line_step}
use Rattle.sap_intruder.specs.code.Filled.{AddsOne, AreCarriedOut, AreLeading, IsGrown, IsLooselyTied, IsTied, IsWritten, HasEntered, entries_of}
use Rattle.sap_intruder.specs.declared.filling.Filling.{Filling}
use Rattle.sap_intruder.proofs.OneRun.{last_same, pushed}
use Rattle.sap_intruder.proofs.Sparing.{mapped_more}

-- ---- lists

pub got_last : {A : Type 0} (xs : List A) (x : A) → slice_get (xs ++ x ∷ []) (length xs) ≡ Some x
got_last [] x = refl
got_last (y ∷ xs) x = got_last xs x

pub none_behind : {A : Type 0} (xs : List A) → slice_get xs (length xs) ≡ None
none_behind xs = slice_get_past xs (length xs) (omega arith)

pub some_one : (xs ys : List Tree) → map Some xs ≡ map Some ys → xs ≡ ys
some_one [] [] e = refl
some_one [] (y ∷ ys) e = absurd (cc)
some_one (x ∷ xs) [] e = absurd (cc)
some_one (x ∷ xs) (y ∷ ys) e =
    let heads : x ≡ y = cc in
    let tails : map Some xs ≡ map Some ys = cc in
    let h = some_one xs ys tails in
    (λ i. heads i ∷ h i)

-- ---- what a line enters

-- a line adds one entry at most
pub adds_one : (g : Sig) (W : Tree → Type 0) (c d : Config) (es fs : List Tree) (step : PStep) (inner : List InnerAction) (label : List Fact) → IsProcessLine g W c es step inner label d fs → AddsOne es fs
adds_one g W c d es fs step inner label (IsProcessLine.ends t r) = inl refl
adds_one g W c d es fs step inner label (IsProcessLine.splits t r) = inl refl
adds_one g W c d es fs step inner label (IsProcessLine.copies t r) = inl refl
adds_one g W c d es fs step inner label (IsProcessLine.makes_name t n r u) = inl refl
adds_one g W c d es fs step inner label (IsProcessLine.outputs {n = n} t r f v) = inr (n, refl)
adds_one g W c d es fs step inner label (IsProcessLine.outputs_on {u = u} t k r e f i v) = inr (u, refl)
adds_one g W c d es fs step inner label (IsProcessLine.inputs t k σ r e f) = inl refl
adds_one g W c d es fs step inner label (IsProcessLine.inputs_on t k σ r e n q v) = inl refl
adds_one g W c d es fs step inner label (IsProcessLine.meets s t σ r q e f v) = inl refl
adds_one g W c d es fs step inner label (IsProcessLine.agrees t r f e is v) = inl refl
adds_one g W c d es fs step inner label (IsProcessLine.differs t r f e differ v) = inl refl
adds_one g W c d es fs step inner label (IsProcessLine.shows t r f v) = inl refl
adds_one g W c d es fs step inner label (IsProcessLine.inserts t r f e v) = inl refl
adds_one g W c d es fs step inner label (IsProcessLine.deletes t r f v) = inl refl
adds_one g W c d es fs step inner label (IsProcessLine.finds t r f e v) = inl refl
adds_one g W c d es fs step inner label (IsProcessLine.misses t r f e v) = inl refl
adds_one g W c d es fs step inner label (IsProcessLine.locks t r f e v) = inl refl
adds_one g W c d es fs step inner label (IsProcessLine.unlocks t r f v) = inl refl
adds_one g W c d es fs step inner label (IsProcessLine.embeds t ks b σ left taken right r i q a n j k l v) = inl refl
adds_one g W c d es fs step inner label (IsProcessLine.names n u) = inr (_, refl)
adds_one g W c d es fs step inner label (IsProcessLine.writes a) = inr (_, refl)
adds_one g W c d es fs step inner label (IsProcessLine.applies f ks ts x p a e n v) = inr (x, refl)
adds_one g W c d es fs step inner label (IsProcessLine.knows k x e) = inl refl

-- so once a line was done, all but one entry are those of the search
pub loosely : (a b : Filling) (step : PStep) → IsTied a → IsWritten a b step → IsLooselyTied b
loosely a b step tied w = record {
  sig = ap (λ s. s.sig) w.search ∙ (tied.sig ∙ sym w.done.sig);
  entries =
      subst (λ (es : List Tree). AddsOne es (entries_of b)) (sym (ap (λ s. s.entries) w.search ∙ tied.entries))
      (adds_one a.config.sig HasFewNodes (configuration a.config) (configuration b.config) (entries_of a) (entries_of b) step w.done.inner w.label w.done.line);
  count = w.count ∙ (tied.count ∙ ap (λ s. length s.entries) (sym w.search));
}

-- where no entry stands behind those of the search, they are all
pub all_entered : (es fs : List Tree) → AddsOne es fs → slice_get fs (length es) ≡ None → es ≡ fs
all_entered es fs (inl is) none = sym is
all_entered es fs (inr (x, is)) none = absurd (let there : slice_get fs (length es) ≡ Some x = subst (λ (zs : List Tree). slice_get zs (length es) ≡ Some x) (sym is) (got_last es x) in cc (there, none))

-- where one stands there, it is the last
pub one_entered : (es fs : List Tree) (x : Tree) → AddsOne es fs → slice_get fs (length es) ≡ Some x → es ++ x ∷ [] ≡ fs
one_entered es fs x (inl is) some = absurd (let there : slice_get fs (length es) ≡ None = subst (λ (zs : List Tree). slice_get zs (length es) ≡ None) (sym is) (none_behind es) in cc (there, some))
one_entered es fs x (inr (y, is)) some =
    let there : slice_get fs (length es) ≡ Some y = subst (λ (zs : List Tree). slice_get zs (length es) ≡ Some y) (sym is) (got_last es y) in
    let one : x ≡ y = cc (there, some) in
    ap (λ z. es ++ z ∷ []) one ∙ sym is

pub all_at : (P : Tree → Type 0) (ts : List Tree) (k : ℕ) (t : Tree) → All P ts → slice_get ts k ≡ Some t → P t
all_at P ts k t all at = let m = contains_got ts t k at in subst P m.2 (all m.0 t m.1)

-- ---- the lines of a derivation

-- a line of a derivation that is done does nothing but enter its term
record DoesNothing (c d : Config) (es fs : List Tree) (inner : List InnerAction) (label : List Fact) (u : Tree) : Type 0 where
  inside : inner ≡ []
  shows : label ≡ []
  stays : d ≡ c
  enters : fs ≡ es ++ u ∷ []

public_does : (g : Sig) (W : Tree → Type 0) (c d : Config) (es fs : List Tree) (inner : List InnerAction) (label : List Fact) (a : List ℕ)
    → IsProcessLine g W c es (line.Public a) inner label d fs → DoesNothing c d es fs inner label (public a)
public_does g W c d es fs inner label a (IsProcessLine.writes _) = record { inside = refl; shows = refl; stays = refl; enters = refl }

apply_does : FormIsOne → (g : Sig) (W : Tree → Type 0) (c d : Config) (es fs : List Tree) (inner : List InnerAction) (label : List Fact) (f ks : List ℕ) (us : List Tree) (u : Tree)
    → map (slice_get es) ks ≡ map Some us → IsNormalForm (equations g) (apply f (trees_of us)) u → IsProcessLine g W c es (line.Apply f ks) inner label d fs → DoesNothing c d es fs inner label u
apply_does one g W c d es fs inner label f ks us u at form (IsProcessLine.applies _ _ ts x p a e n v) =
    let args : ts ≡ us = some_one ts us (sym e ∙ at) in
    let is : x ≡ u = one (equations g) (apply f (trees_of us)) x u (subst (λ (zs : List Tree). IsNormalForm (equations g) (apply f (trees_of zs)) x) args n) form in
    record { inside = refl; shows = refl; stays = refl; enters = ap (λ z. es ++ z ∷ []) is }

line_does : FormIsOne → (g : Sig) (W : Tree → Type 0) (c d : Config) (es fs : List Tree) (inner : List InnerAction) (label : List Fact) (l : Line) (u : Tree)
    → IsLine g es l u → IsProcessLine g W c es (line_step l) inner label d fs → DoesNothing c d es fs inner label u
line_does one g W c d es fs inner label _ _ (writes a) h = public_does g W c d es fs inner label a h
line_does one g W c d es fs inner label _ _ (applies f ks us u p a at form size) h = apply_does one g W c d es fs inner label f ks us u at form h

-- the last of lines that are possible in turn
pub record LastGiven (g : Sig) (ts us : List Tree) (xs : List Line) (l : Line) : Type 0 where
  pub before : List Tree
  pub term : Tree
  pub are : us ≡ before ++ term ∷ []
  pub give : Give g ts xs before
  pub last : IsLine g (ts ++ before) l term

pub last_given : (g : Sig) (ts us : List Tree) (ls xs : List Line) (l : Line) → Give g ts ls us → ls ≡ xs ++ l ∷ [] → LastGiven g ts us xs l
last_given g ts _ _ xs l no_lines e = absurd (pushed xs l (sym e))
last_given g ts _ _ xs l (one_more ls us m u h s) e =
    let is = last_same ls xs m l e in
    record {
      before = us;
      term = u;
      are = refl;
      give = subst (λ (zs : List Line). Give g ts zs us) is.0 h;
      last = subst (λ (k : Line). IsLine g (ts ++ us) k u) is.1 s;
    }

pub none_given : (g : Sig) (ts us : List Tree) (ls : List Line) → Give g ts ls us → ls ≡ [] → us ≡ []
none_given g ts _ _ no_lines e = refl
none_given g ts _ _ (one_more ls us m u h s) e = absurd (pushed ls m e)

pub lines_count : (g : Sig) (ts us : List Tree) (ls : List Line) → Give g ts ls us → length ls ≡ length us
lines_count g ts _ _ no_lines = refl
lines_count g ts _ _ (one_more ls us m u h s) =
    let a = length-append ls (m ∷ []) in
    let b = length-append us (u ∷ []) in
    let e = lines_count g ts us ls h in
    a ∙ (ap (λ n. n + 1) e ∙ sym b)

-- nothing has come
pub grown_not : (a : Filling) → IsGrown a a [] []
grown_not a = record { sig = refl; config = refl; lines_are = sym (append-nil a.lines); entries = sym (append-nil (entries_of a)) }

pub carried_none : (a : Filling) → AreCarriedOut a a []
carried_none a = record {
  search = refl;
  count = refl;
  out = λ given h. subst (λ (us : List Tree). IsGrown a a [] us) (sym (none_given a.config.sig (entries_of a) given [] h refl)) (grown_not a);
}

-- one line more
more_grown : FormIsOne → (a b d : Filling) (l : Line) → IsWritten b d (line_step l) → (ls : List Line) (us : List Tree) (u : Tree) → IsGrown a b ls us → IsLine a.config.sig (entries_of a ++ us) l u
    → IsGrown a d (ls ++ l ∷ []) (us ++ u ∷ [])
more_grown one a b d l w ls us u out is =
    let there : IsLine b.config.sig (entries_of b) l u =
    subst (λ (g : Sig). IsLine g (entries_of b) l u) (sym out.sig) (subst (λ (es : List Tree). IsLine a.config.sig es l u) (sym out.entries) is) in
    let does = line_does one b.config.sig HasFewNodes (configuration b.config) (configuration d.config) (entries_of b) (entries_of d) w.done.inner w.label l u there w.done.line in
    record {
      sig = w.done.sig ∙ out.sig;
      config = does.stays ∙ out.config;
      lines_are = w.lines
          ∙ (ap (λ zs. zs ++ line_step l ∷ []) out.lines_are
          ∙ (append_assoc a.lines (map line_step ls) (line_step l ∷ []) ∙ ap (λ zs. a.lines ++ zs) (sym (mapped_more line_step ls l))));
      entries = does.enters ∙ (ap (λ es. es ++ u ∷ []) out.entries ∙ append_assoc (entries_of a) us (u ∷ []));
    }

-- one more line of these
pub carried_more : FormIsOne → (a b d : Filling) (lines : List Line) (k : ℕ) (l : Line) → slice_get lines k ≡ Some l → AreCarriedOut a b (take k lines) → IsWritten b d (line_step l)
    → AreCarriedOut a d (take (k + 1) lines)
carried_more one a b d lines k l at h w = record {
  search = w.search ∙ h.search;
  count = w.count ∙ h.count;
  out = λ given gives.
      let cut = last_given a.config.sig (entries_of a) given (take (k + 1) lines) (take k lines) l gives (take_got lines k l at) in
      let more = more_grown one a b d l w (take k lines) cut.before cut.term (h.out cut.before cut.give) cut.last in
      subst (λ (us : List Tree). IsGrown a d (take (k + 1) lines) us) (sym cut.are)
      (subst (λ (ls : List Line). IsGrown a d ls (cut.before ++ cut.term ∷ [])) (sym (take_got lines k l at)) more);
}

-- ---- what the adversary can give

-- an entry is deducible from the entries, so from what was given
pub entry_given : EntriesGiveTheSame → (r : Running) (k : ℕ) (x : Tree) → AreEntered r.sig r.known → IsNormal (equations r.sig) x → slice_get (terms_of r.known) k ≡ Some x
    → CanGive r.sig (configuration r) x
entry_given same_given r k x entered normal at =
    let m = contains_got (terms_of r.known) x k at in
    let from_entries : IsDeducible r.sig [] (terms_of r.known) x =
    record { form = x; is_form = record { equal = same; normal = normal }; earlier = []; derivation = (given m, tt) } in
    record { deducible = (same_given r.sig r.known x entered).1 from_entries; normal = normal }

-- what isn't deducible from the entries it can't give
pub not_given : EntriesGiveTheSame → (a : Filling) (x : Tree) → IsTied a → AreEntered a.config.sig a.config.known → ¬ IsDeducible a.search.sig [] a.search.entries x
    → ¬ CanGive a.config.sig (configuration a.config) x
not_given same_given a x tied entered never gives =
    let there : IsDeducible a.config.sig [] (entries_of a) x = (same_given a.config.sig a.config.known x entered).0 gives.deducible in
    never (subst (λ (es : List Tree). IsDeducible a.search.sig [] es x) (sym tied.entries) (subst (λ (g : Sig). IsDeducible g [] (entries_of a) x) (sym tied.sig) there))

-- ---- what was found

-- the search has found the term, and its lines were done; the rest of the filling is as it was
pub record IsSearched (a b : Filling) (s : Searched) : Type 0 where
  pub config : b.config ≡ a.config
  pub lines : b.lines ≡ a.lines
  pub search : b.search ≡ s
  pub count : b.count ≡ a.count

-- all but the count
pub record IsCounted (b d : Filling) (more : ℕ) : Type 0 where
  pub config : d.config ≡ b.config
  pub lines : d.lines ≡ b.lines
  pub search : d.search ≡ b.search
  pub count : d.count ≡ b.count + more

grown_before : (a b d : Filling) (s : Searched) (ls : List Line) (us : List Tree) → IsSearched a b s → IsGrown b d ls us → IsGrown a d ls us
grown_before a b d s ls us is h = record {
  sig = h.sig ∙ ap (λ r. r.sig) is.config;
  config = h.config ∙ ap configuration is.config;
  lines_are = h.lines_are ∙ ap (λ zs. zs ++ map line_step ls) is.lines;
  entries = h.entries ∙ ap (λ (r : Running). terms_of r.known ++ us) is.config;
}

grown_behind : (a b d : Filling) (n : ℕ) (ls : List Line) (us : List Tree) → IsCounted b d n → IsGrown a b ls us → IsGrown a d ls us
grown_behind a b d n ls us is h = record {
  sig = ap (λ r. r.sig) is.config ∙ h.sig;
  config = ap configuration is.config ∙ h.config;
  lines_are = is.lines ∙ h.lines_are;
  entries = ap (λ (r : Running). terms_of r.known) is.config ∙ h.entries;
}

-- the lines that were found are possible behind the entries
pub found_leads : (a b : Filling) (x : Tree) (found : Derivation) (s : Searched) → IsTied a → IsFoundIn a.search x found s → b.config ≡ a.config → AreLeading b found.lines
found_leads a b x found s tied is config =
    let lines_given : Give a.config.sig (entries_of a) found.lines is.given =
    subst (λ (h : Sig). Give h (entries_of a) found.lines is.given) tied.sig (subst (λ (ts : List Tree). Give a.search.sig ts found.lines is.given) tied.entries is.found.lines) in
    (is.given, subst (λ (r : Running). Give r.sig (terms_of r.known) found.lines is.given) (sym config) lines_given)

pub found_entered : EntriesGiveTheSame → (a b c d : Filling) (x : Tree) (found : Derivation) (s : Searched) → IsTied a → IsFoundIn a.search x found s → IsSearched a b s
    → AreCarriedOut b c found.lines → IsCounted c d (length found.lines) → IsNormal (equations a.config.sig) x → AreEntered d.config.sig d.config.known → HasEntered a d x found.entry
found_entered same_given a b c d x found s tied is searched carried counted normal entered =
    let g : Sig = a.config.sig in
    let es : List Tree = entries_of a in
    let lines_given : Give g es found.lines is.given =
    subst (λ (h : Sig). Give h es found.lines is.given) tied.sig (subst (λ (ts : List Tree). Give a.search.sig ts found.lines is.given) tied.entries is.found.lines) in
    let config_is : a.config ≡ b.config = sym searched.config in
    let behind : Give b.config.sig (entries_of b) found.lines is.given = subst (λ (r : Running). Give r.sig (terms_of r.known) found.lines is.given) config_is lines_given in
    let out = carried.out is.given behind in
    let grown = grown_behind a c d (length found.lines) found.lines is.given counted (grown_before a b c s found.lines is.given searched out) in
    let entries_are : entries_of d ≡ es ++ is.given = grown.entries in
    let search_is : d.search ≡ s = counted.search ∙ (carried.search ∙ searched.search) in
    let entries_too : d.search.entries ≡ es ++ is.given = ap (λ (z : Searched). z.entries) search_is ∙ (is.entries ∙ ap (λ ts. ts ++ is.given) tied.entries) in
    let at : slice_get (entries_of d) found.entry ≡ Some x =
    subst (λ (ts : List Tree). slice_get ts found.entry ≡ Some x) (sym entries_are) (subst (λ (ts : List Tree). slice_get (ts ++ is.given) found.entry ≡ Some x) tied.entries is.found.goal_is) in
    let normal_there : IsNormal (equations d.config.sig) x = subst (λ (h : Sig). IsNormal (equations h) x) (sym grown.sig) normal in
    let gives = entry_given same_given d.config found.entry x entered normal_there at in
    let numbers = lines_count g es is.given found.lines lines_given in
    record {
      derivation = found;
      given = is.given;
      found = subst (λ (h : Sig). IsFoundBy h es x found is.given) tied.sig (subst (λ (ts : List Tree). IsFoundBy a.search.sig ts x found is.given) tied.entries is.found);
      grown = grown;
      tied = record {
        sig = ap (λ (z : Searched). z.sig) search_is ∙ (is.sig ∙ (tied.sig ∙ sym grown.sig));
        entries = entries_too ∙ sym entries_are;
        count = counted.count ∙ (ap (λ n. n + length found.lines) (carried.count ∙ (searched.count ∙ (tied.count ∙ ap length tied.entries)))
            ∙ (ap (λ n. length es + n) numbers ∙ (sym (length-append es is.given) ∙ ap length (sym entries_too))));
      };
      entry = at;
      gives = subst (λ (h : Sig). CanGive h (configuration a.config) x) grown.sig (subst (λ (c : Config). CanGive d.config.sig c x) grown.config gives);
    }
