-- The words, as they are read one by one.
use Rattle.std.proofs.Common.{◌≡◌, ◌∙◌, ℕ, ◌+◌, ◌-◌, ◌<◌, ◌≤◌, add-one, arith, List, [], ◌∷◌, ◌++◌, take, drop, map, length, length-drop, get_or, Option, Some, None, inl, inr, ap, sym}
use Rattle.std.specs.Prelude.{IfSome}
use Rattle.std.proofs.Math.Seq.{take-suc}
use Rattle.std.proofs.lemmas.List.{take_all, map-append}
use Rattle.std.proofs.lemmas.Option.{none-some, slice_get_cases, slice_get_within, get_or_from_slice_get}
use Rattle.xa_domain.specs.xa_link.Arguments.{word_at}
use Rattle.xa_domain.specs.xa_script.declared.script.Client.{Client}
use Rattle.xa_program.specs.Headline.{names_of}
use Rattle.xa_program.specs.Words.{command_of, command_in}

-- the first words, and one more
pub taken_more : (told : Option (List (List ℕ))) (all : List (List ℕ)) (place : ℕ) (word : List ℕ) → IfSome told (λ ws. all ≡ take place ws) → IfSome told (λ ws. Some word ≡ word_at ws place)
    → IfSome told (λ ws. all ++ word ∷ [] ≡ take (place + 1) ws)
taken_more None all place word so there = tt
taken_more (Some ws) all place word so there =
    let at = get_or_from_slice_get ws place word word (sym there) in
    let within = slice_get_within ws place word (sym there) in
    ap (λ (xs : List (List ℕ)). xs ++ word ∷ []) so ∙ (ap (λ (w : List ℕ). take place ws ++ w ∷ []) (sym at)
    ∙ (sym (take-suc ws place word within) ∙ ap (λ n. take n ws) (sym (add-one place))))

-- of none the first are none
pub taken_none : (told : Option (List (List ℕ))) (all : List (List ℕ)) → all ≡ [] → IfSome told (λ ws. all ≡ take 0 ws)
taken_none None all none = tt
taken_none (Some ws) all none = none

-- where no word is at the place, the words before it are all
pub taken_all : (told : Option (List (List ℕ))) (all : List (List ℕ)) (place : ℕ) (word : Option (List ℕ)) → word ≡ None → IfSome told (λ ws. all ≡ take place ws) → IfSome told (λ ws. word ≡ word_at ws place)
    → IfSome told (λ ws. all ≡ ws)
taken_all None all place word none so beyond = tt
taken_all (Some ws) all place word none so beyond =
    elim (slice_get_cases ws place).1 [
      | inl here ↦ absurd (none-some here.0 (sym none ∙ (beyond ∙ here.2)))
      | inr past ↦ so ∙ take_all place ws past.0
    ]

-- the names of the first clients, and that of one more
pub names_more : (clients : List Client) (place : ℕ) (client : Client) (names : List (List ℕ)) → place < length clients → client ≡ get_or clients place client → names ≡ names_of (take place clients)
    → names ++ client.name ∷ [] ≡ names_of (take (place + 1) clients)
names_more clients place client names within is so =
    ap (λ (ns : List (List ℕ)). ns ++ client.name ∷ []) so ∙ (sym (map-append (λ (x : Client). x.name) (take place clients) (client ∷ []))
    ∙ ap names_of (ap (λ (x : Client). take place clients ++ x ∷ []) is ∙ (sym (take-suc clients place client within) ∙ ap (λ n. take n clients) (sym (add-one place)))))

-- two words are a command and its argument
pub two_words : {S : Type 0} (text : S → List ℕ) (words : List S) (first second : S) (command argument : List ℕ) → 2 ≤ length words → length words < 3 → first ≡ get_or words 0 first → second ≡ get_or words 1 second
    → command ≡ text first → argument ≡ text second → command_of command argument ≡ command_in (map text words)
two_words text [] first second command argument least below is_first is_second its other = absurd (omega arith)
two_words text (x ∷ []) first second command argument least below is_first is_second its other = absurd (omega arith)
two_words text (x ∷ y ∷ []) first second command argument least below is_first is_second its other =
    ap (λ (word : List ℕ). command_of word argument) (its ∙ ap text is_first) ∙ ap (λ (word : List ℕ). command_of (text x) word) (other ∙ ap text is_second)
two_words text (x ∷ y ∷ z ∷ rest) first second command argument least below is_first is_second its other = absurd (omega arith)

-- behind the first as many stand as there are but one
pub whole_behind : (all : List (List ℕ)) → take (length all - 1) (drop 1 all) ≡ drop 1 all
whole_behind all = take_all (length all - 1) (drop 1 all) (omega (arith, length-drop 1 all))
