-- What words that fit have
use Rattle.std.specs.Prelude.{◌≡◌, true, List, ℕ, ◌+◌, ◌*◌, ltb, length, get_or}
use Rattle.notation.specs.Upto.{all_to}
use Rattle.layout.specs.Layout.{from, bytes, process_fits, state_words}

pub record Fitting (ws : List ℕ) : Type 0 where
  pub long : length ws ≡ state_words
  pub processes : all_to (λ i. process_fits (from ws (24 * i))) 10 ≡ true
  pub queues : bytes (from ws 240) 555 ≡ true
  pub devices : all_to (λ d. bytes (from ws (795 + 3 * d)) 2) 5 ≡ true
  pub numbers : bytes (from ws 810) 4 ≡ true
  pub count : bytes (from ws 820) 1 ≡ true
  pub mark : ltb (get_or ws 821 0) 2 ≡ true
