-- Posts that a house hands out for the workers of a network.
use Rattle.std.specs.Prelude.{◌≡◌, ℕ, List, ◌++◌, slice_get, Option, Some, option_map, All}
use Rattle.node_table.specs.declared.settings.Settings.{Settings}
use Rattle.qron_link.specs.Outside.{Rose}
use Rattle.cqc_server.specs.Record.{IsPostAt, ArePosts}
use Rattle.cqc_server.specs.Watch.{PostSeen, Watch}
use Rattle.cqc_server.specs.declared.post.Post.{Post}
use Rattle.qron_cli.specs.declared.house.Posts.{Posts}
use Rattle.qron_cli.specs.declared.house.Posts.TheVariants.{Ready, Failed, OutOfMemory}
use Rattle.qron_cli.specs.House.{Facts}

-- the first posts of a network in order of seat, with dice of this key, and with patience that goes on as often as the settings say
pub record AreFirst {Q : Type 0} (posts : List Q) (post : Q → PostSeen) (key : List ℕ) (s : Settings) : Type 0 where
  pub places : (k : ℕ) (p : Q) → slice_get posts k ≡ Some p → IsPostAt s.workers k (post p)
  pub keys : All (λ p. (post p).key ≡ key) posts
  pub times : All (λ p. (post p).times ≡ s.patience) posts

-- posts for all workers of a network, with dice of this key, and with patience that goes on as often as the settings say
pub record AreGiven {Q L : Type 0} (watch : Watch Q L) (key : List ℕ) (s : Settings) (posts : List Q) : Type 0 where
  pub all : ArePosts watch s posts
  pub keys : All (λ p. (watch.post p).key ≡ key) posts
  pub times : All (λ p. (watch.post p).times ≡ s.patience) posts

-- what came of asking for posts: the posts handed out so far, with these behind them, where they are told; there are
-- none only where the count of faults rose, or memory was short
abbrev pub PostsGave : {D W P L : Type 0} → Watch (Post D W P) L → Settings → Posts D W P → Facts → Facts → Option (List (Post D W P)) → Option (List (Post D W P)) → Type 0
PostsGave watch s (Ready posts) old new before after = AreGiven watch (old.keys s.seed) s posts.items × (after ≡ option_map (λ list. list ++ posts.items) before)
PostsGave watch s Failed old new before after = Rose old.faults new.faults × (after ≡ before)
PostsGave watch s OutOfMemory old new before after = after ≡ before
