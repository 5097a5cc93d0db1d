-- What one ask leaves of what a house tells.
use Rattle.std.proofs.Common.{◌≡◌, ℕ, List, [], ◌∷◌, ◌++◌, drop, Option, None, Some, refl, sym, ap, subst, ◌∙◌, inl, inr}
use Rattle.std.proofs.lemmas.Bool.{false≢true}
use Rattle.std.specs.Prelude.{IfSome, IsSome, IsSomeAnd, option_map, length, ◌<◌, Ok}
use Rattle.node_table.specs.declared.settings.Settings.{Settings}
use Rattle.node_table.specs.Document.{settings_of}
use Rattle.qron_cli.specs.House.{Ask, ask_file, ask_posts, asks_by, asks_in, asks_behind, Facts, Allows, TellsFiles, WasAsked, IsTooLong, file_limit}
use Rattle.qron_cli.specs.Files.{Holds, SaysSettings, SaysSchedule, NoSchedule}
use Rattle.schedule.specs.Plans.{Plans}

-- where several asks are allowed, the first is
pub first_allowed : (a : Ask) (others : List Ask) (facts : Facts) → Allows (a ∷ others) facts → Allows (a ∷ []) facts
first_allowed a others facts h = of_asks facts.asks h
  where
    of_asks : (o : Option (List Ask)) → IfSome o (λ allowed. (rest : List Ask) × (allowed ≡ (a ∷ others) ++ rest)) → IfSome o (λ allowed. (rest : List Ask) × (allowed ≡ (a ∷ []) ++ rest))
    of_asks None h = tt
    of_asks (Some allowed) (rest, e) = (others ++ rest, e)

-- and behind it the others are
pub next_allowed : (a : Ask) (others : List Ask) (before after : Facts) → Allows (a ∷ others) before → WasAsked before after → Allows others after
next_allowed a others before after h asked = of_asks before.asks after.asks h asked.asks
  where
    of_asks : (o p : Option (List Ask)) → IfSome o (λ allowed. (rest : List Ask) × (allowed ≡ (a ∷ others) ++ rest)) → p ≡ option_map (λ asks. drop 1 asks) o
        → IfSome p (λ allowed. (rest : List Ask) × (allowed ≡ others ++ rest))
    of_asks None p h e = subst (λ (x : Option (List Ask)). IfSome x (λ allowed. (rest : List Ask) × (allowed ≡ others ++ rest))) (sym e) tt
    of_asks (Some allowed) p (rest, is) e =
        subst (λ (x : Option (List Ask)). IfSome x (λ now. (rest : List Ask) × (now ≡ others ++ rest))) (sym e) (rest, ap (λ asks. drop 1 asks) is)

-- the posts of the settings that a file says are asked for behind it
pub asks_said : (files : List ℕ → Option (List ℕ)) (name text : List ℕ) (s : Settings) → files name ≡ Some text → settings_of text ≡ Ok s → asks_behind (Some files) name ≡ ask_posts s ∷ []
asks_said files name text s there says = ap asks_in there ∙ ap asks_by says

-- where they are allowed behind the file, they are once it was read
pub posts_allowed : (name : List ℕ) (s : Settings) (before after : Facts) → TellsFiles before → SaysSettings before name s
    → Allows (ask_file name ∷ asks_behind before.files name) before → WasAsked before after → Allows (ask_posts s ∷ []) after
posts_allowed name s before after tells (text, holds, says) h asked = of_asks before.asks refl
  where
    of_files : (files : Option (List ℕ → Option (List ℕ))) → IsSome files → IfSome files (λ file. file name ≡ Some text) → asks_behind files name ≡ ask_posts s ∷ []
    of_files None told there = absurd (false≢true told)
    of_files (Some file) told there = asks_said file name text s there says

    of_asks : (o : Option (List Ask)) → before.asks ≡ o → Allows (ask_posts s ∷ []) after
    of_asks None e =
        subst (λ (x : Option (List Ask)). IfSome x (λ allowed. (rest : List Ask) × (allowed ≡ (ask_posts s ∷ []) ++ rest))) (sym (asked.asks ∙ ap (option_map (λ asks. drop 1 asks)) e)) tt
    of_asks (Some allowed) e =
        let told : IsSome before.files = subst (λ (x : Option (List Ask)). IfSome x (λ _. IsSome before.files)) e tells in
        subst (λ others. Allows others after) (of_files before.files told holds.bytes) (next_allowed (ask_file name) (asks_behind before.files name) before after h asked)

-- what files hold is as it was
pub holds_before : (before after : Facts) (name text : List ℕ) → WasAsked before after → Holds after name text → Holds before name text
holds_before before after name text asked h = record {
  bytes = subst (λ (files : Option (List ℕ → Option (List ℕ))). IfSome files (λ file. file name ≡ Some text)) asked.files h.bytes;
  few = h.few;
}

pub long_before : (before after : Facts) (name : List ℕ) → WasAsked before after → IsTooLong after name → IsTooLong before name
long_before before after name asked h =
    subst (λ (files : Option (List ℕ → Option (List ℕ))). IfSome files (λ file. IsSomeAnd (file name) (λ bytes. file_limit < length bytes))) asked.files h

pub says_before : (before after : Facts) (name : List ℕ) (nodes : ℕ) (plans : Plans) → WasAsked before after → SaysSchedule after name nodes plans → SaysSchedule before name nodes plans
says_before before after name nodes plans asked (text, holds, means) = (text, holds_before before after name text asked holds, means)

pub refuses_before : (before after : Facts) (name : List ℕ) (nodes : ℕ) → WasAsked before after → NoSchedule after name nodes → NoSchedule before name nodes
refuses_before before after name nodes asked (inl (why, (text, holds, means))) = inl (why, (text, holds_before before after name text asked holds, means))
refuses_before before after name nodes asked (inr h) = inr (long_before before after name asked h)
