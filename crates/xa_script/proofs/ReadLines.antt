-- Lines that are read one after another: their script, or their first fault.
use Rattle.std.proofs.Common.{◌≡◌, ℕ, ◌+◌, List, [], ◌∷◌, ◌++◌, length, Option, Some, None, Ok, Err, refl, ap, sym, ◌∙◌, append_assoc, append-nil, length-append, arith}
use Rattle.std.specs.Str.Lines.{lines}
use Rattle.xa_types.specs.declared.setup.Setup.{Setup}
use Rattle.xa_script.specs.declared.script.Client.{Client}
use Rattle.xa_script.specs.declared.draft.Cause.{Cause}
use Rattle.xa_script.specs.Script.{IsScriptOf, IsFirstFault}
use Rattle.xa_script.specs.Draft.{Taken, with_line, read_all, cause_number}
use Rattle.xa_script.proofs.LineSays.{least, least_stops}
use Rattle.xa_script.proofs.ScriptSays.{going, script_read, script_again}
use Rattle.xa_script.proofs.Texts.{some_is}

joined : (setup : Setup) (most : ℕ) (before after : List (List ℕ)) (taken : Taken)
    → ((clients : List Client) → read_all setup most clients (before ++ after) ≡ going setup most after (read_all setup most clients before))
    → going setup most (before ++ after) taken ≡ going setup most after (going setup most before taken)
joined setup most before after (Ok clients) each = each clients
joined setup most before after (Err cause) each = refl

read_append : (setup : Setup) (most : ℕ) (clients : List Client) (before after : List (List ℕ))
    → read_all setup most clients (before ++ after) ≡ going setup most after (read_all setup most clients before)
unfolding read_all
read_append setup most clients [] after = refl
read_append setup most clients (line ∷ before) after =
    joined setup most before after (with_line setup most clients line) (λ more. read_append setup most more before after)

-- so many lines of all are a script of these clients, and the rest follows
pub record IsReadTo (setup : Setup) (most : ℕ) (all : List (List ℕ)) (n : ℕ) (clients : List Client) (rest : List (List ℕ)) : Type 0 where
  pub before : List (List ℕ)
  pub cut : all ≡ before ++ rest
  pub counted : n ≡ length before
  pub script : read_all setup most [] before ≡ Ok clients

pub nothing_read : (setup : Setup) (most : ℕ) (all : List (List ℕ)) → IsReadTo setup most all 0 [] all
unfolding read_all
nothing_read setup most all = record { before = []; cut = refl; counted = refl; script = refl }

one_line : (setup : Setup) (most : ℕ) (clients : List Client) (line : List ℕ) (rest : List (List ℕ)) → read_all setup most clients (line ∷ rest) ≡ going setup most rest (with_line setup most clients line)
unfolding read_all
one_line setup most clients line rest = refl

none_left : (setup : Setup) (most : ℕ) (clients : List Client) → read_all setup most clients [] ≡ Ok clients
unfolding read_all
none_left setup most clients = refl

-- one line more
pub goes_on : (setup : Setup) (most : ℕ) (all rest : List (List ℕ)) (n : ℕ) (clients more : List Client) (line : List ℕ)
    → IsReadTo setup most all n clients (line ∷ rest) → with_line setup most clients line ≡ Ok more → IsReadTo setup most all (n + 1) more rest
goes_on setup most all rest n clients more line reached next = record {
  before = reached.before ++ line ∷ [];
  cut = reached.cut ∙ sym (append_assoc reached.before (line ∷ []) rest);
  counted = let counted = reached.counted in omega (arith, counted, length-append reached.before (line ∷ []));
  script = read_append setup most [] reached.before (line ∷ []) ∙ ap (going setup most (line ∷ [])) reached.script
      ∙ one_line setup most clients line [] ∙ ap (going setup most []) next ∙ none_left setup most more;
}

pub first_fault : (setup : Setup) (most : ℕ) (octets : List ℕ) (rest : List (List ℕ)) (n : ℕ) (clients : List Client) (line : List ℕ) (cause : Cause)
    → IsReadTo setup most (lines octets) n clients (line ∷ rest) → with_line setup most clients line ≡ Err cause → IsFirstFault setup most octets (n + 1) (cause_number cause)
first_fault setup most octets rest n clients line cause reached stops = record {
  before = reached.before;
  clients = clients;
  text = line;
  after = rest;
  cut = reached.cut;
  counted = ap (λ k. k + 1) reached.counted;
  script = script_read setup most reached.before clients reached.script;
  fault = least setup most clients line cause stops;
}

pub all_read : (setup : Setup) (most : ℕ) (all : List (List ℕ)) (n : ℕ) (clients : List Client) → IsReadTo setup most all n clients [] → IsScriptOf setup most all clients
all_read setup most all n clients reached = script_read setup most all clients (ap (read_all setup most []) (reached.cut ∙ append-nil reached.before) ∙ reached.script)

-- ---- there is one reading

clients_are : (a b : List Client) → ◌≡◌ {A = Taken} (Ok a) (Ok b) → a ≡ b
clients_are a b h = cc h

pub one_script : (setup : Setup) (most : ℕ) (all : List (List ℕ)) (a b : List Client) → read_all setup most [] all ≡ Ok a → read_all setup most [] all ≡ Ok b → a ≡ b
one_script setup most all a b first second = clients_are a b (sym first ∙ second)

abbrev Stopped : Setup → ℕ → List Client → List ℕ → ℕ → Type 0
Stopped setup most clients text number = (cause : Cause) × (with_line setup most clients text ≡ Err cause) × (number ≡ cause_number cause)

stopped : (setup : Setup) (most : ℕ) (octets : List ℕ) (line number : ℕ) → (fault : IsFirstFault setup most octets line number) → Stopped setup most fault.clients fault.text number
stopped setup most octets line number fault = least_stops setup most fault.clients fault.text number fault.fault

before_read : (setup : Setup) (most : ℕ) (octets : List ℕ) (line number : ℕ) → (fault : IsFirstFault setup most octets line number) → read_all setup most [] fault.before ≡ Ok fault.clients
before_read setup most octets line number fault = script_again setup most fault.before fault.clients fault.script

stops_at : (setup : Setup) (most : ℕ) (octets : List ℕ) (line number : ℕ) → (fault : IsFirstFault setup most octets line number) → (cause : Cause)
    → with_line setup most fault.clients fault.text ≡ Err cause → read_all setup most [] (lines octets) ≡ Err cause
stops_at setup most octets line number fault cause stops =
    ap (read_all setup most []) fault.cut ∙ read_append setup most [] fault.before (fault.text ∷ fault.after)
    ∙ ap (going setup most (fault.text ∷ fault.after)) (before_read setup most octets line number fault)
    ∙ one_line setup most fault.clients fault.text fault.after ∙ ap (going setup most fault.after) stops

pub no_fault : (setup : Setup) (most : ℕ) (octets : List ℕ) (line number : ℕ) (clients : List Client) → IsScriptOf setup most (lines octets) clients
    → IsFirstFault setup most octets line number → ⊥
no_fault setup most octets line number clients script fault =
    let s = stopped setup most octets line number fault in
    let wrong : ◌≡◌ {A = Taken} (Ok clients) (Err s.0) = sym (script_again setup most (lines octets) clients script) ∙ stops_at setup most octets line number fault s.0 s.1 in cc

abbrev Place : Type 0
Place = ℕ × Cause

-- the place of the first fault, counted on from that number
abbrev place_of : (ℕ → List Client → Option Place) → ℕ → Taken → Option Place
place_of next n (Ok clients) = next (n + 1) clients
place_of next n (Err cause) = Some (n + 1, cause)

abbrev place_from : Setup → ℕ → List (List ℕ) → ℕ → List Client → Option Place
place_from setup most [] n clients = None
place_from setup most (line ∷ rest) n clients = place_of (place_from setup most rest) n (with_line setup most clients line)

abbrev PlaceBehind : Setup → ℕ → List (List ℕ) → List (List ℕ) → ℕ → List Client → Taken → Type 0
PlaceBehind setup most before rest n clients taken = (found : List Client) → taken ≡ Ok found
    → place_of (place_from setup most (before ++ rest)) n taken ≡ place_from setup most (before ++ rest) (n + 1) found

placed : (setup : Setup) (most : ℕ) (before after : List (List ℕ)) (text : List ℕ) (n : ℕ) (clients found : List Client) (cause : Cause)
    → read_all setup most clients before ≡ Ok found → with_line setup most found text ≡ Err cause
    → place_from setup most (before ++ text ∷ after) n clients ≡ Some (n + length before + 1, cause)
unfolding read_all
placed setup most [] after text n clients found cause read fault =
    let same : clients ≡ found = clients_are clients found read in
    let sum : n + 1 ≡ n + 0 + 1 = omega arith in
    ap (λ c. place_of (place_from setup most after) n (with_line setup most c text)) same ∙ ap (place_of (place_from setup most after) n) fault ∙ ap (λ k. Some (k, cause)) sum
placed setup most (line ∷ before) after text n clients found cause read fault =
    elim (with_line setup most clients line) as (λ (t : Taken). going setup most before t ≡ Ok found
    → place_of (place_from setup most (before ++ text ∷ after)) n t ≡ Some (n + length (line ∷ before) + 1, cause)) [
      | Ok more ↦ λ h.
          let sum : n + 1 + length before + 1 ≡ n + length (line ∷ before) + 1 = omega arith in
          placed setup most before after text (n + 1) more found cause h fault ∙ ap (λ k. Some (k, cause)) sum
      | Err other ↦ λ h. absurd cc
    ] read

place_is : (setup : Setup) (most : ℕ) (octets : List ℕ) (line number : ℕ) → (fault : IsFirstFault setup most octets line number) → (cause : Cause)
    → with_line setup most fault.clients fault.text ≡ Err cause → place_from setup most (lines octets) 0 [] ≡ Some (line, cause)
place_is setup most octets line number fault cause stops =
    let counted = fault.counted in
    let sum : 0 + length fault.before + 1 ≡ line = omega (arith, counted) in
    ap (λ all. place_from setup most all 0 []) fault.cut
    ∙ placed setup most fault.before fault.after fault.text 0 [] fault.clients cause (before_read setup most octets line number fault) stops
    ∙ ap (λ k. Some (k, cause)) sum

pub one_fault : (setup : Setup) (most : ℕ) (octets : List ℕ) (line other number reason : ℕ) → IsFirstFault setup most octets line number → IsFirstFault setup most octets other reason
    → (line ≡ other) × (number ≡ reason)
one_fault setup most octets line other number reason first second =
    let a = stopped setup most octets line number first in
    let b = stopped setup most octets other reason second in
    let same = some_is (line, a.0) (other, b.0) (sym (place_is setup most octets line number first a.0 a.1) ∙ place_is setup most octets other reason second b.0 b.1) in
    (ap (λ (p : Place). p.0) same, a.2 ∙ ap (λ (p : Place). cause_number p.1) same ∙ sym b.2)

abbrev Faulty : Setup → ℕ → List Client → List (List ℕ) → Cause → Type 0
Faulty setup most clients all cause = (before : List (List ℕ)) × (found : List Client) × (text : List ℕ) × (after : List (List ℕ))
    × (all ≡ before ++ text ∷ after) × (read_all setup most clients before ≡ Ok found) × (with_line setup most found text ≡ Err cause)

faulty : (setup : Setup) (most : ℕ) (clients : List Client) (all : List (List ℕ)) (cause : Cause) → read_all setup most clients all ≡ Err cause → Faulty setup most clients all cause
unfolding read_all
faulty setup most clients [] cause h = absurd cc
faulty setup most clients (line ∷ all) cause h =
    elim (with_line setup most clients line) as (λ (t : Taken). with_line setup most clients line ≡ t → going setup most all t ≡ Err cause → Faulty setup most clients (line ∷ all) cause) [
      | Ok more ↦ λ e k.
          let f = faulty setup most more all cause k in
          (line ∷ f.0, f.1, f.2, f.3, ap (λ rest. line ∷ rest) f.4, ap (going setup most f.0) e ∙ f.5, f.6)
      | Err other ↦ λ e k. ([], clients, line, all, refl, refl, e ∙ k)
    ] refl h

pub sound : (setup : Setup) (most : ℕ) (octets : List ℕ) → ((line number : ℕ) → IsFirstFault setup most octets line number → ⊥)
    → (clients : List Client) × IsScriptOf setup most (lines octets) clients
sound setup most octets none =
    elim (read_all setup most [] (lines octets)) as (λ (t : Taken). read_all setup most [] (lines octets) ≡ t → (clients : List Client) × IsScriptOf setup most (lines octets) clients) [
      | Ok clients ↦ λ e. (clients, script_read setup most (lines octets) clients e)
      | Err cause ↦ λ e.
          let f = faulty setup most [] (lines octets) cause e in
          absurd (none (length f.0 + 1) (cause_number cause) (record {
            before = f.0;
            clients = f.1;
            text = f.2;
            after = f.3;
            cut = f.4;
            counted = refl;
            script = script_read setup most f.0 f.1 f.5;
            fault = least setup most f.1 f.2 cause f.6;
          }))
    ] refl
