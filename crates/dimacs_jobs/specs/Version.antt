-- What a build that is proved says of itself.
use Rattle.std.specs.Prelude.{ℕ, List, codes}

-- the version, and the logic of the kit that proved it
abbrev pub proved_version : List ℕ
proved_version = codes "0.2.0-dev (proved by Rattle, logic dac8208d650f15bf)"
