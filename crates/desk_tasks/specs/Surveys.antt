-- What a request comes to.
use Rattle.std.specs.Prelude.{◌≡◌, List, ℕ, set, Option, Some, None, Result, Ok, Err}
use Rattle.meaning.specs.Openings.{opening}
use Rattle.meaning.specs.Desks.{Outcome, refused, post_in, turn_in, post_of, turn_of}
use Rattle.meaning.specs.declared.Refusal.{Refusal}
use Rattle.meaning.specs.declared.Watch.{Watch}
use Rattle.desk_tasks.specs.declared.Request.{Request}
use Rattle.desk_tasks.specs.declared.Request.TheVariants.{Post, Turn}
use Rattle.desk_tasks.specs.declared.Change.{Change}
use Rattle.desk_tasks.specs.declared.Service.{Service}

-- what is asked of the desk d, over the bytes t with counts P and S, by its definition
abbrev pub served_in : List ℕ → ℕ → ℕ → Request → List Watch → Outcome
served_in t P S (Post n i e) d = post_in n t P S d i e
served_in t P S (Turn n l) d = turn_in n t P S d l

-- the same over a table's bytes
abbrev pub served_of : List ℕ → Request → List Watch → Outcome
served_of t (Post n i e) d = post_of (opening t n) d i e
served_of t (Turn n l) d = turn_of (opening t n) d l

-- what a change makes of a desk, and what a service does, or its refusal: it changes no watch
abbrev pub changed : List Watch → Option Change → List Watch
changed d (Some c) = set d c.number c.watch
changed d None = d

abbrev pub applied : List Watch → Result Service Refusal → Outcome
applied d (Ok v) = record { answer = Ok v.answer; desk = changed d v.change }
applied d (Err x) = refused d x

-- A service that makes of the desk what the definition makes of it, with the definition's answer.
pub record Surveyed (t : List ℕ) (P S : ℕ) (r : Request) (d : List Watch) (v : Result Service Refusal) : Type 0 where
  pub is : applied d v ≡ served_in t P S r d
