-- Octets say one document at most, so they have one reading at most.
use Rattle.std.proofs.Common.{◌≡◌, ℕ, List, [], Option, Some, None, refl, sym, ap, subst, ◌∙◌}
use Rattle.std.specs.Prelude.{IsUtf8}
use Rattle.toml.specs.Parse.{parse_document}
use Rattle.toml.specs.Data.{Data, Members, string, integer, float, boolean, datetime, array, table}
use Rattle.xa_types.specs.declared.setup.Setup.{Setup}
use Rattle.xa_config.specs.Document.{Says, all_faults, first, IsConfiguration, IsFirstFault}
use Rattle.xa_config.specs.Faults.{Fault}
use Rattle.xa_config.specs.Meaning.{setup_of}
use Rattle.xa_config.specs.Tables.{faults_of}

record IsTable (octets : List ℕ) (document : Data) : Type 0 where
  members : Members
  is : document ≡ table members
  utf8 : IsUtf8 octets
  parsed : parse_document octets ≡ Some members

members_said : (octets : List ℕ) (document : Data) → Says octets (Some document) → IsTable octets document
members_said octets (table members) said = record { members = members; is = refl; utf8 = said.0; parsed = said.1 }
members_said octets (string _) said = absurd said
members_said octets (integer _) said = absurd said
members_said octets (float _) said = absurd said
members_said octets (boolean _) said = absurd said
members_said octets (datetime _) said = absurd said
members_said octets (array _) said = absurd said

none_said : (octets : List ℕ) (document : Data) → Says octets (Some document) → Says octets None → ⊥
none_said octets document said not_said =
    let found = members_said octets document said in
    let parsed = found.parsed in
    let none = not_said found.utf8 in
    absurd cc

pub one_document : (octets : List ℕ) (a b : Option Data) → Says octets a → Says octets b → a ≡ b
one_document octets (Some a) (Some b) x y =
    let one = members_said octets a x in
    let other = members_said octets b y in
    let left = one.parsed in
    let right = other.parsed in
    let same : one.members ≡ other.members = cc in
    ap Some (one.is ∙ ap table same ∙ sym other.is)
one_document octets (Some a) None x y = absurd (none_said octets a x y)
one_document octets None (Some b) x y = absurd (none_said octets b y x)
one_document octets None None x y = refl

abbrev first_of : Option Data → Option Fault
first_of document = first (all_faults document)

pub one_setup : (octets : List ℕ) (setup other : Setup) → IsConfiguration octets setup → IsConfiguration octets other → setup ≡ other
one_setup octets setup other x y =
    let same = one_document octets (Some x.document) (Some y.document) x.is_said y.is_said in
    let inner : x.document ≡ y.document = cc in
    x.says ∙ ap setup_of inner ∙ sym y.says

pub no_fault : (octets : List ℕ) (told : Fault) (setup : Setup) → IsFirstFault octets told → IsConfiguration octets setup → ⊥
no_fault octets told setup x y =
    let same = one_document octets x.document (Some y.document) x.is_said y.is_said in
    let there : first (faults_of y.document) ≡ Some told = subst (λ d. first_of d ≡ Some told) same x.is_first in
    let none : first [] ≡ Some told = subst (λ faults. first faults ≡ Some told) y.faultless there in
    absurd cc

pub one_fault : (octets : List ℕ) (told other : Fault) → IsFirstFault octets told → IsFirstFault octets other → told ≡ other
one_fault octets told other x y =
    let same = one_document octets x.document y.document x.is_said y.is_said in
    let there : first_of y.document ≡ Some told = subst (λ d. first_of d ≡ Some told) same x.is_first in
    let found = y.is_first in
    cc
