-- A choice by a test, as the definitions write it
use Rattle.std.specs.Prelude.{Bool, true, false}

abbrev pub if : {A : Type 0} → Bool → A → A → A
if true a b = a
if false a b = b
