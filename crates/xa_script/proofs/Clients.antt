-- The clients of lines that are read: calls of the last one, and lines one after another.
use Rattle.std.proofs.Common.{◌≡◌, ℕ, is_some, true, cond, List, [], ◌∷◌, ◌++◌, Option, Some, None, Ok, Err, refl, ap, sym, ◌∙◌}
use Rattle.xa_types.specs.declared.setup.Setup.{Setup}
use Rattle.xa_types.specs.declared.call.Op.{Op}
use Rattle.xa_script.specs.declared.calls.Verb.{Verb}
use Rattle.xa_script.specs.declared.script.Client.{Client}
use Rattle.xa_script.specs.declared.draft.Cause.TheVariants.{NotServed}
use Rattle.xa_script.specs.Calls.{op_of}
use Rattle.xa_script.specs.Served.{is_served}
use Rattle.xa_script.specs.Draft.{Taken, client_with, with_call, with_op, called}
use Rattle.xa_script.specs.Draft.{drafted}

last_call : (done : List Client) (client : Client) (op : Op) → with_call (done ++ client ∷ []) op ≡ done ++ client_with client.name (client.ops ++ op ∷ []) ∷ []
last_call [] client op = refl
last_call (first ∷ []) client op = refl
last_call (first ∷ other ∷ done) client op = ap (λ more. first ∷ more) (last_call (other ∷ done) client op)

-- the last client makes one call more
pub one_call : (done : List Client) (name : Option (List ℕ)) (ops more : List Op) (op : Op) → is_some name ≡ true → more ≡ ops ++ op ∷ []
    → drafted done name more ≡ with_call (drafted done name ops) op
one_call done None ops more op begun is = absurd cc
one_call done (Some name) ops more op begun is = ap (λ all. done ++ client_with name all ∷ []) is ∙ sym (last_call done (client_with name ops) op)

behind_last : (setup : Setup) (done : List Client) (client : Client) (verb : Verb) (octets : List ℕ)
    → called setup (done ++ client ∷ []) (Some verb) octets ≡ with_op (done ++ client ∷ []) (op_of setup verb octets)
behind_last setup [] client verb octets = refl
behind_last setup (first ∷ done) client verb octets = refl

-- a call behind a client
pub behind_client : (setup : Setup) (done : List Client) (name : Option (List ℕ)) (ops : List Op) (verb : Verb) (octets : List ℕ) → is_some name ≡ true
    → called setup (drafted done name ops) (Some verb) octets ≡ with_op (drafted done name ops) (op_of setup verb octets)
behind_client setup done None ops verb octets begun = absurd cc
behind_client setup done (Some name) ops verb octets begun = behind_last setup done (client_with name ops) verb octets

-- a call that is read, taken and served is the last client's
pub added : (setup : Setup) (done all : List Client) (name : Option (List ℕ)) (ops more : List Op) (verb : Verb) (octets : List ℕ) (op : Op) → is_some name ≡ true
    → op_of setup verb octets ≡ Some (Some op) → is_served op ≡ true → more ≡ ops ++ op ∷ [] → drafted done name ops ≡ all
    → ◌≡◌ {A = Taken} (Ok (drafted done name more)) (called setup all (Some verb) octets)
added setup done all name ops more verb octets op begun read served is view =
    let clients = drafted done name ops in
    ap (λ now. Ok now) (one_call done name ops more op begun is)
    ∙ ap (λ b. cond b (Ok (with_call clients op)) (Err NotServed)) (sym served)
    ∙ ap (with_op clients) (sym read)
    ∙ sym (behind_client setup done name ops verb octets begun)
    ∙ ap (λ now. called setup now (Some verb) octets) view
