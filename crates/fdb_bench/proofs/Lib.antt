mod ItemsLemmas
