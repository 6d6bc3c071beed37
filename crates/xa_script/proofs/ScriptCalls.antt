-- The calls of a script are served, and a client has no more of them than there are lines.
use Rattle.std.proofs.Common.{◌≡◌, ℕ, ◌≤◌, true, List, [], ◌∷◌, ◌++◌, length, map, ap, subst, arith, length-append}
use Rattle.std.specs.Prelude.{filter, flat_map}
use Rattle.std.specs.List.{AllZip, AllByRecursion}
use Rattle.std.proofs.lemmas.List.{length-map}
use Rattle.std.proofs.lemmas.Slice.Zip.{AllZip-long}
use Rattle.xa_types.specs.declared.setup.Setup.{Setup}
use Rattle.xa_types.specs.declared.call.Op.{Op}
use Rattle.xa_script.specs.declared.script.Client.{Client}
use Rattle.xa_script.specs.Served.{is_served}
use Rattle.xa_script.specs.Script.{Saying, Nothing, Begins, Makes, Says, blank, comment, begins, makes, SaysPrinted, is_said, said_of, IsScriptOf}

abbrev pub IsServed : Op → Type 0
IsServed op = is_served op ≡ true

-- the call that is said is served
abbrev IsGood : Saying → Type 0
IsGood Nothing = Unit {0}
IsGood (Begins name) = Unit {0}
IsGood (Makes op) = IsServed op

good : (setup : Setup) (line : List ℕ) (saying : Saying) → Says setup line saying → IsGood saying
good setup line saying (blank h) = tt
good setup line saying (comment h) = tt
good setup line saying (begins name is named) = tt
good setup line saying (makes op is served) = served

all_good : (setup : Setup) (lines : List (List ℕ)) (sayings : List Saying) → AllZip (SaysPrinted setup) lines sayings → AllByRecursion IsGood (filter is_said sayings)
all_good setup [] [] each = tt
all_good setup [] (saying ∷ sayings) each = absurd each
all_good setup (line ∷ lines) [] each = absurd each
all_good setup (line ∷ lines) (Nothing ∷ sayings) each = all_good setup lines sayings each.1
all_good setup (line ∷ lines) (Begins name ∷ sayings) each = (tt, all_good setup lines sayings each.1)
all_good setup (line ∷ lines) (Makes op ∷ sayings) each = (good setup line (Makes op) each.0.1, all_good setup lines sayings each.1)

few_said : (sayings : List Saying) → length (filter is_said sayings) ≤ length sayings
few_said [] = omega arith
few_said (Nothing ∷ sayings) = let few = few_said sayings in omega (arith, few)
few_said (Begins name ∷ sayings) = let few = few_said sayings in omega (arith, few)
few_said (Makes op ∷ sayings) = let few = few_said sayings in omega (arith, few)

good_calls : (ops : List Op) (rest : List Saying) → AllByRecursion IsGood (map (λ op. Makes op) ops ++ rest) → AllByRecursion IsServed ops × AllByRecursion IsGood rest
good_calls [] rest all = (tt, all)
good_calls (op ∷ ops) rest all = let more = good_calls ops rest all.1 in ((all.0, more.0), more.1)

-- a client with so many calls at most, which are served
pub record IsServedClient (most : ℕ) (client : Client) : Type 0 where
  pub calls : AllByRecursion IsServed client.ops
  pub few : length client.ops ≤ most

each_served : (most : ℕ) (clients : List Client) → length (flat_map said_of clients) ≤ most → AllByRecursion IsGood (flat_map said_of clients) → AllByRecursion (IsServedClient most) clients
each_served most [] few all = tt
each_served most (client ∷ clients) few all =
    let parts = good_calls client.ops (flat_map said_of clients) all.1 in
    let long = length-append (map (λ op. Makes op) client.ops) (flat_map said_of clients) in
    let calls = length-map client.ops (λ op. Makes op) in
    (record { calls = parts.0; few = omega (arith, few, long, calls) }, each_served most clients (omega (arith, few, long)) parts.1)

pub script_calls : (setup : Setup) (most : ℕ) (lines : List (List ℕ)) (clients : List Client) → IsScriptOf setup most lines clients → AllByRecursion (IsServedClient (length lines)) clients
script_calls setup most lines clients script =
    let same = script.said in
    let long = AllZip-long (SaysPrinted setup) lines script.sayings script.each in
    let few = few_said script.sayings in
    let told = ap length same in
    each_served (length lines) clients (omega (arith, long, few, told)) (subst (AllByRecursion IsGood) same (all_good setup lines script.sayings script.each))
