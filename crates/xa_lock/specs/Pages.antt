-- What a pass knows of the entries under its lock, and how that changes (this project's own).
use Rattle.std.specs.Prelude.{◌≡◌, ℕ, zero, suc, ◌==◌, List, [], ◌∷◌, ◌++◌, length, drop}
use Rattle.std.specs.List.{All, filter}
use Rattle.xa_lock.specs.declared.pass.Page.{Page}
use Rattle.xa_lock.specs.declared.pass.SeatView.{SeatView}

-- a list begins with another
abbrev pub StartsWith : {A : Type 0} → List A → List A → Type 0
StartsWith {A} whole front = (rest : List A) × (whole ≡ front ++ rest)

module _ {E : Type 0} where
  abbrev pub page : ℕ → List E → List E → Page E
  page maker own seen = record { maker = maker; own = own; seen = seen }

  -- the first of these pages
  abbrev pub first_of : List (Page E) → Page E
  first_of [] = page 0 [] []
  first_of (p ∷ ps) = p

  -- the page of a seat that has one
  abbrev pub mine : SeatView E → Page E
  mine v = first_of v.pages

  abbrev pub page_of : List (SeatView E) → Page E
  page_of [] = page 0 [] []
  page_of (v ∷ vs) = mine v

  -- the page once its maker found these entries
  abbrev pub page_seeing : Page E → List E → Page E
  page_seeing p entries = page p.maker p.own entries

  -- the page once its maker left with these entries: those behind what it found are its own
  abbrev pub page_leaving : Page E → List E → Page E
  page_leaving p entries = page p.maker (p.own ++ drop (length p.seen) entries) entries

  -- what maker k has at the start, where these entries stand: all are maker 0's
  abbrev pub first_own : List E → ℕ → List E
  first_own entries zero = entries
  first_own entries (suc k) = []

  -- the page of maker k at the start
  abbrev pub first_page : ℕ → List E → Page E
  first_page k entries = page k (first_own entries k) entries

  module _ (maker : E → ℕ) where
    -- the entries of one maker
    abbrev pub entries_by : ℕ → List E → List E
    entries_by k entries = filter (λ e. maker e == k) entries

    -- the entries are those that stood before, and then further ones, all of maker k
    abbrev pub GrewBy : ℕ → List E → List E → Type 0
    GrewBy k before after = (more : List E) × (after ≡ before ++ more) × All (λ e. maker e ≡ k) more

    -- the page is right of these entries: those of its maker are its own, and they begin with what it saw
    abbrev pub Knows : Page E → List E → Type 0
    Knows p entries = (entries_by p.maker entries ≡ p.own) × StartsWith entries p.seen
